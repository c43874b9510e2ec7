-- The office, the wardens and the readers together, with what is on its way between them.
-- Assumes nothing.
use Rattle.std.specs.Prelude.{◌≡◌, ℕ, ◌*◌, ◌<◌, ◌≤◌, Bool, true, false, List, [], ◌∷◌, ◌++◌, ◌≢◌}
use mathlib.Core.List.{Memᴰ}
use Rattle.register.specs.Count.{put}
use Rattle.register.specs.Note.{Note, none}
use Rattle.protocol.specs.Message.{office, Packet, packets}
use Rattle.protocol.specs.Step.{Step, Outcome, Done, Refused}
use Rattle.protocol.specs.Warden.{WardenDone, taken, answered, warden_on}
use Rattle.protocol.specs.Office.{OfficeDone, begun, resent, no_writing, counted, ended, Desk, empty_desk, write_on, office_tick, office_on}
use Rattle.protocol.specs.Reader.{ReaderDone, asked, asked_again, retried, no_reading, heard, undecided, read, unsure, Reader, new_reader, read_on, reader_tick, reader_on}
use Rattle.protocol.specs.Log.{Began, Ended, Took, Lost, Asked, Retried, Read, Unsure, Log}
use Rattle.protocol.specs.Promise.{Good}

-- WHAT IS SEEN OF A STEP
abbrev pub warden_event : (i k : ℕ) → Note → Outcome WardenDone → Log
warden_event i k x (Done taken) = Took i k x.edition ∷ []
warden_event i k x (Done answered) = []
warden_event i k x (Refused m) = []

abbrev pub office_event : (k : ℕ) → Desk → Outcome OfficeDone → Log
office_event k d (Done begun) = Began k d.now.edition d.now.value ∷ []
office_event k d (Done resent) = []
office_event k d (Done no_writing) = []
office_event k d (Done counted) = []
office_event k d (Done ended) = Ended k d.now.edition ∷ []
office_event k d (Refused m) = []

abbrev pub reader_event : (j : ℕ) → Reader → Outcome ReaderDone → Log
reader_event j q (Done asked) = Asked j q.note ∷ []
reader_event j q (Done asked_again) = []
reader_event j q (Done retried) = Retried j q.note ∷ []
reader_event j q (Done no_reading) = []
reader_event j q (Done heard) = []
reader_event j q (Done undecided) = []
reader_event j q (Done (read x)) = Read j q.note x.edition x.value ∷ []
reader_event j q (Done unsure) = Unsure j q.note ∷ []
reader_event j q (Refused m) = []

-- ALL TOGETHER
-- office: its desk for each note; warden: what each has of each note; reader: of each number;
-- bag: all that was ever sent, so that any of it may come never, late, or again and again; log: what came to pass
pub record System : Type 0 where
  pub office : ℕ → Desk
  pub warden : ℕ → ℕ → Note
  pub reader : ℕ → Reader
  pub bag : List Packet
  pub log : Log

abbrev pub boot : System
boot = record { office = λ k. empty_desk; warden = λ i k. none; reader = λ j. new_reader 0; bag = []; log = [] }

-- a party has made a step, about the note k
abbrev pub by_office : (n k : ℕ) → Step Desk OfficeDone → System → System
by_office n k o s =
    record { office = put k o.next s.office; warden = s.warden; reader = s.reader; bag = packets n office k o.sends ++ s.bag; log = office_event k o.next o.outcome ++ s.log }

abbrev pub by_warden : (n i k : ℕ) → Step Note WardenDone → System → System
by_warden n i k o s =
    record { office = s.office; warden = put i (put k o.next (s.warden i)) s.warden; reader = s.reader; bag = packets n i k o.sends ++ s.bag; log = warden_event i k o.next o.outcome ++ s.log }

abbrev pub by_reader : (n j : ℕ) → Step Reader ReaderDone → System → System
by_reader n j o s =
    record { office = s.office; warden = s.warden; reader = put j o.next s.reader; bag = packets n j o.next.note o.sends ++ s.bag; log = reader_event j o.next o.outcome ++ s.log }

abbrev pub with_packet : Packet → System → System
with_packet p s = record { office = s.office; warden = s.warden; reader = s.reader; bag = p ∷ s.bag; log = s.log }

-- the office starts again, and knows of each note what it writes, but not who has taken it
abbrev pub forget : Desk → Desk
forget d = record { now = d.now; busy = d.busy; acks = λ i. false }

abbrev pub office_restarted : System → System
office_restarted s = record { office = λ k. forget (s.office k); warden = s.warden; reader = s.reader; bag = s.bag; log = s.log }

abbrev pub reader_restarted : (j first : ℕ) → System → System
reader_restarted j first s = record { office = s.office; warden = s.warden; reader = put j (new_reader first) s.reader; bag = s.bag; log = s.log }

abbrev pub warden_lost : (i : ℕ) → System → System
warden_lost i s = record { office = s.office; warden = put i (λ k. none) s.warden; reader = s.reader; bag = s.bag; log = Lost i ∷ s.log }

-- what can happen, with n wardens; those of `liar` may send anything, and f is the number of liars that is reckoned with
pub data Move (n f : ℕ) (liar : ℕ → Bool) : System → System → Type 0 where
  -- the office is told to write; it is time to send again; a packet comes to it
  writes : {s : System} (k : ℕ) (v : List ℕ) → Move n f liar s (by_office n k (write_on (s.office k) v) s)
  office_ticks : {s : System} (k : ℕ) → Move n f liar s (by_office n k (office_tick (s.office k)) s)
  office_hears : {s : System} (p : Packet) → Memᴰ p s.bag → p.to ≡ office →
      Move n f liar s (by_office n p.note (office_on n f (s.office p.note) p.from p.message) s)
  -- a packet comes to an honest warden
  warden_hears : {s : System} (i : ℕ) (p : Packet) → i < n → liar i ≡ false → Memᴰ p s.bag → p.to ≡ i →
      Move n f liar s (by_warden n i p.note (warden_on (s.warden i p.note) p.from p.message) s)
  -- an honest reader is told to read; it is time to ask again; a packet comes to it
  reads : {s : System} (j k : ℕ) → liar j ≡ false → Move n f liar s (by_reader n j (read_on (s.reader j) k) s)
  reader_ticks : {s : System} (j : ℕ) → liar j ≡ false → Move n f liar s (by_reader n j (reader_tick n f (s.reader j)) s)
  reader_hears : {s : System} (j : ℕ) (p : Packet) → liar j ≡ false → Memᴰ p s.bag → p.to ≡ j →
      Move n f liar s (by_reader n j (reader_on n f (s.reader j) p.from p.note p.message) s)
  -- the office starts again; a reader starts again, with numbers for its rounds that it has not used
  office_restarts : {s : System} → Move n f liar s (office_restarted s)
  reader_restarts : {s : System} (j first : ℕ) → (s.reader j).next ≤ first → Move n f liar s (reader_restarted j first s)
  -- who is not honest, be it a warden or a stranger, sends what it likes to whom it likes, as from itself
  lies : {s : System} (p : Packet) → liar p.from ≡ true → (p.from ≢ office) → Move n f liar s (with_packet p s)
  -- a warden loses what it had
  loses : {s : System} (i : ℕ) → Move n f liar s (warden_lost i s)

pub data Run (n f : ℕ) (liar : ℕ → Bool) : System → Type 0 where
  begin : Run n f liar boot
  then : {s t : System} → Run n f liar s → Move n f liar s t → Run n f liar t

-- THE THEOREM: with fewer liars reckoned with than a fourth of the wardens, whatever happens, the log is good
abbrev pub Holds : Type 0
Holds = (n f : ℕ) (liar : ℕ → Bool) → 4 * f < n → (s : System) → Run n f liar s → Good n f liar s.log
