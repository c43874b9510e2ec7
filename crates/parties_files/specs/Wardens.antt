-- A warden with its disk, as the rules have it.
-- Assumes nothing.
use Rattle.std.specs.Prelude.{◌≡◌, ℕ, Bool, true, false, ◌⊎◌, List, [], map, vec_items, MatchBool}
use Rattle.register.specs.Note.{Note}
use Rattle.protocol.specs.Message.{Packet, Sends, Nothing, One, Each}
use Rattle.protocol.specs.Step.{Step, Outcome}
use Rattle.protocol.specs.Warden.{WardenDone}
use Rattle.parties.specs.Views.{message_of}
use Rattle.parties_tables.specs.Wardens.{notes_of}
use Rattle.protocol_tables.specs.Keep.{Keep}
use Rattle.frames.specs.Format.{Frame}
use Rattle.frames.specs.Journal.{Splits}
use Rattle.frames.specs.declared.role.Role.TheVariants as roles
use Rattle.protocol_files.specs.Disk.{Disk, contents, sync, Cut}
use Rattle.protocol_files.specs.Records.{warden_replays, warden_of}
use Rattle.protocol_files.specs.Nodes.{Node, stepped, flushed}
use Rattle.protocol_files.specs.Nodes as rules
use Rattle.journal.specs.Openings.{Found, opened_disk}
use Rattle.journal.specs.declared.opening.Opening.{Opening}
use Rattle.storage.specs.declared.outgoing.Outgoing.{Outgoing}
use Rattle.parties_files.specs.declared.warden.Warden.{Warden}

-- what it has of each note
abbrev pub kept : Warden → Keep Note
kept w = notes_of w.notes

-- a warden of the number i sends it
abbrev pub packet_of : (i : ℕ) → Outgoing → Packet
packet_of i x = record { from = i; to = x.to.0; note = x.note.0; message = message_of x.message }

abbrev pub outbox_of : (i : ℕ) → Warden → List Packet
outbox_of i w = map (packet_of i) (vec_items w.outbox)

-- the warden of the number i, whose disk is d
abbrev pub node_of : (i : ℕ) → Warden → Disk → Node rules.Warden
node_of i w d = record { disk = d; up = w.up; memory = record { notes = kept w; outbox = outbox_of i w } }

-- a warden never sends to all
abbrev pub Single : Sends → Type 0
Single Nothing = Unit {0}
Single (One to m) = Unit {0}
Single (Each m) = ⊥

-- it has become v by a record; what it is to answer stays
pub record Replays (w : Warden) (f : Frame) (v : Warden) : Type 0 where
  pub notes : kept v ≡ warden_replays (kept w) f
  pub outbox : vec_items v.outbox ≡ vec_items w.outbox

-- P, Q: of the disk before and after a call; w, v: the warden
-- a message about the note k came to it: it has gone on by a step, and answers nothing yet
pub record Did (P Q : Disk → Type 0) (w v : Warden) (k : ℕ) (o : Outcome WardenDone) (step : Step (Keep Note) WardenDone) : Type 0 where
  pub up : w.up ≡ true
  pub outcome : o ≡ step.outcome
  pub node : (d : Disk) → P d → (e : Disk) × Q e × ((n i : ℕ) → node_of i v e ≡ stepped n i k step (node_of i w d))

-- nothing came of it: all is as it was, or it is down, and its disk is as a fall leaves it
abbrev pub Failed : (P Q : Disk → Type 0) (w v : Warden) → Type 0
Failed P Q w v = (d : Disk) → P d → (e : Disk) × Q e × (((i : ℕ) → node_of i v e ≡ node_of i w d) ⊎ ((v.up ≡ false) × Cut d e))

-- it has synced what it wrote, and answered
pub record Flushed (P Q : Disk → Type 0) (w v : Warden) : Type 0 where
  pub up : w.up ≡ true
  pub node : (d : Disk) → P d → Q (sync d) × ((i : ℕ) → node_of i v (sync d) ≡ flushed (node_of i w d))

-- it was not up; or it is down, since it could not sync, and has answered nothing; or it has synced, and not all answers went out
abbrev pub Unflushed : (P Q : Disk → Type 0) (w v : Warden) → Type 0
Unflushed P Q w v = Failed P Q w v ⊎ Flushed P Q w v

-- it has opened its file, whose records it has replayed, and nothing is to be answered
pub record Started (P Q : Disk → Type 0) (v : Warden) (trusted : Bool) (o : Opening) : Type 0 where
  pub up : v.up ≡ true
  pub outbox : vec_items v.outbox ≡ []
  pub frames : List Frame
  pub kept : kept v ≡ warden_of frames
  pub found : (d : Disk) → P d → MatchBool trusted (Found roles.Warden (contents d.file) frames o) ((rest : List ℕ) × Splits roles.Warden d.file.synced frames rest)
  pub left : (d : Disk) → P d → Q (opened_disk frames)
