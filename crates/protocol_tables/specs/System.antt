-- All parties together, with their tables of notes.
-- Assumes nothing.
use Rattle.std.specs.Prelude.{◌≡◌, ℕ, ◌*◌, ◌<◌, ◌≤◌, Bool, true, false, List, [], ◌∷◌, ◌++◌, ◌≢◌}
use mathlib.Core.List.{Memᴰ}
use Rattle.register.specs.Count.{put}
use Rattle.register.specs.Note.{Note, none}
use Rattle.protocol.specs.Message.{office, Packet, packets}
use Rattle.protocol.specs.Step.{Step}
use Rattle.protocol.specs.Warden.{WardenDone}
use Rattle.protocol.specs.Reader.{ReaderDone, Reader, new_reader, read_on, reader_tick, reader_on}
use Rattle.protocol.specs.Log.{Lost, Log}
use Rattle.protocol.specs.Promise.{Good}
use Rattle.protocol.specs.System.{warden_event, office_event, reader_event, forget}
use Rattle.protocol.specs.System as plain
use Rattle.protocol_tables.specs.Keep.{Keep, empty}
use Rattle.protocol_tables.specs.Warden.{warden_keeps}
use Rattle.protocol_tables.specs.Office.{Office, empty_office, OfficeStep, post, office_writes, office_hears, office_ticks}

pub record System : Type 0 where
  pub office : Office
  pub warden : ℕ → Keep Note
  pub reader : ℕ → Reader
  pub bag : List Packet
  pub log : Log

abbrev pub boot : System
boot = record { office = empty_office; warden = λ i. empty none; reader = λ j. new_reader 0; bag = []; log = [] }

-- a party has made a step, about the note k
abbrev pub by_office : (n k : ℕ) → OfficeStep → System → System
by_office n k o s =
    record { office = o.next; warden = s.warden; reader = s.reader; bag = post n o.letters s.bag; log = office_event k (o.next.desks.at k) o.outcome ++ s.log }

abbrev pub by_warden : (n i k : ℕ) → Step (Keep Note) WardenDone → System → System
by_warden n i k o s =
    record { office = s.office; warden = put i o.next s.warden; reader = s.reader; bag = packets n i k o.sends ++ s.bag; log = warden_event i k (o.next.at k) o.outcome ++ s.log }

abbrev pub by_reader : (n j : ℕ) → Step Reader ReaderDone → System → System
by_reader n j o s =
    record { office = s.office; warden = s.warden; reader = put j o.next s.reader; bag = packets n j o.next.note o.sends ++ s.bag; log = reader_event j o.next o.outcome ++ s.log }

abbrev pub with_packet : Packet → System → System
with_packet p s = record { office = s.office; warden = s.warden; reader = s.reader; bag = p ∷ s.bag; log = s.log }

-- the office starts again, and knows of each note what it writes, but not who has taken it
abbrev pub forgetful : Office → Office
forgetful o = record { desks = record { at = λ k. forget (o.desks.at k); had = o.desks.had; many = o.desks.many }; under_way = o.under_way }

abbrev pub office_restarted : System → System
office_restarted s = record { office = forgetful s.office; warden = s.warden; reader = s.reader; bag = s.bag; log = s.log }

abbrev pub reader_restarted : (j first : ℕ) → System → System
reader_restarted j first s = record { office = s.office; warden = s.warden; reader = put j (new_reader first) s.reader; bag = s.bag; log = s.log }

abbrev pub warden_lost : (i : ℕ) → System → System
warden_lost i s = record { office = s.office; warden = put i (empty none) s.warden; reader = s.reader; bag = s.bag; log = Lost i ∷ s.log }

-- what can happen, with n wardens; those of `liar` may send anything, and f is the number of liars that is reckoned with
pub data Move (n f : ℕ) (liar : ℕ → Bool) : System → System → Type 0 where
  writes : {s : System} (k : ℕ) (v : List ℕ) → Move n f liar s (by_office n k (office_writes s.office k v) s)
  -- every writing under way is sent again; nothing of it is seen
  office_tick : {s : System} → Move n f liar s (record { office = s.office; warden = s.warden; reader = s.reader; bag = post n (office_ticks s.office).letters s.bag; log = s.log })
  office_hear : {s : System} (p : Packet) → Memᴰ p s.bag → p.to ≡ office →
      Move n f liar s (by_office n p.note (office_hears n f s.office p.from p.note p.message) s)
  warden_hear : {s : System} (i : ℕ) (p : Packet) → i < n → liar i ≡ false → Memᴰ p s.bag → p.to ≡ i →
      Move n f liar s (by_warden n i p.note (warden_keeps (s.warden i) p.from p.note p.message) s)
  reads : {s : System} (j k : ℕ) → liar j ≡ false → Move n f liar s (by_reader n j (read_on (s.reader j) k) s)
  reader_ticks : {s : System} (j : ℕ) → liar j ≡ false → Move n f liar s (by_reader n j (reader_tick n f (s.reader j)) s)
  reader_hears : {s : System} (j : ℕ) (p : Packet) → liar j ≡ false → Memᴰ p s.bag → p.to ≡ j →
      Move n f liar s (by_reader n j (reader_on n f (s.reader j) p.from p.note p.message) s)
  office_restarts : {s : System} → Move n f liar s (office_restarted s)
  reader_restarts : {s : System} (j first : ℕ) → (s.reader j).next ≤ first → Move n f liar s (reader_restarted j first s)
  lies : {s : System} (p : Packet) → liar p.from ≡ true → (p.from ≢ office) → Move n f liar s (with_packet p s)
  loses : {s : System} (i : ℕ) → Move n f liar s (warden_lost i s)

pub data Run (n f : ℕ) (liar : ℕ → Bool) : System → Type 0 where
  begin : Run n f liar boot
  then : {s t : System} → Run n f liar s → Move n f liar s t → Run n f liar t

-- the same without bounds
abbrev pub unbounded : System → plain.System
unbounded s = record { office = s.office.desks.at; warden = λ i. (s.warden i).at; reader = s.reader; bag = s.bag; log = s.log }

-- every run is a run without bounds, with the same log
abbrev pub Refines : Type 0
Refines = (n f : ℕ) (liar : ℕ → Bool) (s : System) → Run n f liar s → plain.Run n f liar (unbounded s)

-- THE THEOREM: the log of every run is good
abbrev pub Holds : Type 0
Holds = (n f : ℕ) (liar : ℕ → Bool) → 4 * f < n → (s : System) → Run n f liar s → Good n f liar s.log
