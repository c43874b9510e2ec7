-- What is on its way, as the rules have it, and which of it is meant.
-- Assumes nothing.
use Rattle.std.specs.Prelude.{◌≡◌, ℕ, ◌<◌, Bool, true, false, ◌&&◌, List, ◌∷◌, ◌++◌, map, length, vec_items, ◌==◌, slice_index_or}
use Rattle.protocol.specs.Message as rules
use Rattle.parties.specs.Views.{message_of}
use Rattle.rehearsal.specs.Parties.{party_number}
use Rattle.rehearsal.specs.declared.way.Packet.{Packet}
use Rattle.rehearsal.specs.declared.way.Way.{Way}
use Rattle.rehearsal.specs.declared.way.Which.{Which}
use Rattle.rehearsal.specs.declared.way.Which.TheVariants.{Number, Between}

abbrev pub packet_of : Packet → rules.Packet
packet_of p = record { from = p.from.0; to = p.to.0; note = p.note.0; message = message_of p.message }

abbrev pub packets_of : Way → List rules.Packet
packets_of w = map packet_of (vec_items w.packets)

-- the script means this message
abbrev pub meant : Which → Packet → Bool
meant (Number n) p = p.number == n
meant (Between from to) p = p.from.0 == party_number from && p.to.0 == party_number to

-- it means none of these
abbrev pub Absent : Which → List Packet → Type 0
Absent w ps = (k : ℕ) (d : Packet) → k < length ps → meant w (slice_index_or ps k d) ≡ false

-- it means the one at this place, and none before it
pub record First (w : Which) (ps : List Packet) (place : ℕ) : Type 0 where
  pub inside : place < length ps
  pub hit : (d : Packet) → meant w (slice_index_or ps place d) ≡ true
  pub before : (k : ℕ) (d : Packet) → k < place → meant w (slice_index_or ps k d) ≡ false

-- p is the first of these that it means
pub record Picked (w : Which) (ps : List Packet) (p : Packet) : Type 0 where
  pub older : List Packet
  pub newer : List Packet
  pub all : ps ≡ older ++ p ∷ newer
  pub hit : meant w p ≡ true
  pub first : Absent w older

-- the others
abbrev pub others : {w : Which} {ps : List Packet} {p : Packet} → Picked w ps p → List Packet
others k = k.older ++ k.newer
