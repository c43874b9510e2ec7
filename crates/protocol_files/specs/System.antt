-- All parties together, with their files: they fall anywhere and come up again.
-- Assumes nothing.
use Rattle.std.specs.Prelude.{◌≡◌, ℕ, ◌*◌, ◌^◌, ◌<◌, ◌≤◌, Bool, true, false, cond, ◌&&◌, ◌||◌, List, [], ◌∷◌, ◌++◌, length, ◌==◌, ◌≢◌}
use mathlib.Core.List.{Memᴰ}
use Rattle.register.specs.Count.{put}
use Rattle.protocol.specs.Message.{office, Packet, packets}
use Rattle.protocol.specs.Step.{Step}
use Rattle.protocol.specs.Reader.{ReaderDone, Reader, new_reader, read_on, reader_tick, reader_on}
use Rattle.protocol.specs.Log.{Event, Began, Ended, Took, Lost, Asked, Retried, Read, Unsure, Log}
use Rattle.protocol.specs.Promise.{Good}
use Rattle.protocol.specs.System.{office_event, reader_event}
use Rattle.protocol_tables.specs.Warden.{warden_keeps}
use Rattle.protocol_tables.specs.Office.{Office, OfficeStep, post, ends, office_writes, office_hears, office_ticks}
use Rattle.protocol_tables.specs.System as tables
use Rattle.frames.specs.Format.{Frame}
use Rattle.frames.specs.Journal.{encode_all, Records, Splits}
use Rattle.frames.specs.declared.role.Role.{Role}
use Rattle.frames.specs.declared.role.Role.TheVariants as roles
use Rattle.protocol_files.specs.Disk.{File, Disk, contents, with_beside, rename, Cut}
use Rattle.protocol_files.specs.Records.{warden_of, office_of, took_all, began_all}
use Rattle.protocol_files.specs.Nodes.{Node, Warden, new_warden, new_office, with_disk, fallen, opened, stepped, flushed, opened_warden, recorded, stopped}

-- bag: every message that was ever sent: it may come any number of times, at any time, or never. So a power cut between two sends is one in which the
-- later ones never come.
pub record System : Type 0 where
  pub office : Node Office
  pub warden : ℕ → Node Warden
  pub reader : ℕ → Reader
  pub bag : List Packet
  pub log : Log

abbrev pub boot : System
boot = record { office = new_office; warden = λ i. new_warden; reader = λ j. new_reader 0; bag = []; log = [] }

-- WHAT IS SEEN OF THE OFFICE
-- the edition e of k has come to an end
abbrev pub ends_in : (k e : ℕ) → Event → Bool
ends_in k e (Began k' e' v) = false
ends_in k e (Ended k' e') = k == k' && e == e'
ends_in k e (Took i k' e') = false
ends_in k e (Lost i) = false
ends_in k e (Asked j k') = false
ends_in k e (Retried j k') = false
ends_in k e (Read j k' e' v) = false
ends_in k e (Unsure j k') = false

abbrev pub has_ended : (k e : ℕ) → Log → Bool
has_ended k e [] = false
has_ended k e (x ∷ l) = ends_in k e x || has_ended k e l

-- a writing has come to an end when enough wardens were heard. The record of it may be lost; then they are counted again, which is no event
abbrev pub ended_news : (k e : ℕ) → Log → Log
ended_news k e l = cond (has_ended k e l) l (Ended k e ∷ l)

abbrev pub office_news : (k : ℕ) → OfficeStep → Log → Log
office_news k o l = cond (ends o.outcome) (ended_news k (o.next.desks.at k).now.edition l) (office_event k (o.next.desks.at k) o.outcome ++ l)

-- the same of a step whose record is not surely on the file: that something began is seen once it is
abbrev pub unsure_news : (k : ℕ) → OfficeStep → Log → Log
unsure_news k o l = cond (ends o.outcome) (ended_news k (o.next.desks.at k).now.edition l) l

-- A PARTY HAS CHANGED
abbrev pub with_office : Node Office → System → System
with_office c s = record { office = c; warden = s.warden; reader = s.reader; bag = s.bag; log = s.log }

abbrev pub with_warden : (i : ℕ) → Node Warden → System → System
with_warden i c s = record { office = s.office; warden = put i c s.warden; reader = s.reader; bag = s.bag; log = s.log }

abbrev pub by_office : (n k : ℕ) → OfficeStep → System → System
by_office n k o s =
    record { office = recorded k o s.office; warden = s.warden; reader = s.reader; bag = post n o.letters s.bag; log = office_news k o s.log }

abbrev pub office_posts : (n : ℕ) → OfficeStep → System → System
office_posts n o s = record { office = s.office; warden = s.warden; reader = s.reader; bag = post n o.letters s.bag; log = s.log }

abbrev pub office_stops : (k : ℕ) → OfficeStep → (j : ℕ) → Office → System → System
office_stops k o j m s = record { office = stopped k o j m s.office; warden = s.warden; reader = s.reader; bag = s.bag; log = unsure_news k o s.log }

abbrev pub office_opened : (ss ps : List Frame) → System → System
office_opened ss ps s =
    record { office = opened (ss ++ ps) (office_of (ss ++ ps)); warden = s.warden; reader = s.reader; bag = s.bag; log = began_all ps s.log }

abbrev pub warden_flushed : (i : ℕ) (fs : List Frame) → System → System
warden_flushed i fs s =
    record { office = s.office; warden = put i (flushed (s.warden i)) s.warden; reader = s.reader; bag = (s.warden i).memory.outbox ++ s.bag; log = took_all i fs s.log }

abbrev pub warden_opened : (i : ℕ) (ss ps : List Frame) → System → System
warden_opened i ss ps s =
    record { office = s.office; warden = put i (opened_warden (ss ++ ps) (warden_of (ss ++ ps))) s.warden; reader = s.reader; bag = s.bag; log = took_all i ps s.log }

abbrev pub warden_lost : (i : ℕ) → System → System
warden_lost i s = record { office = s.office; warden = put i new_warden s.warden; reader = s.reader; bag = s.bag; log = Lost i ∷ s.log }

abbrev pub by_reader : (n j : ℕ) → Step Reader ReaderDone → System → System
by_reader n j o s =
    record { office = s.office; warden = s.warden; reader = put j o.next s.reader; bag = packets n j o.next.note o.sends ++ s.bag; log = reader_event j o.next o.outcome ++ s.log }

abbrev pub reader_restarted : (j first : ℕ) → System → System
reader_restarted j first s = record { office = s.office; warden = s.warden; reader = put j (new_reader first) s.reader; bag = s.bag; log = s.log }

abbrev pub with_packet : Packet → System → System
with_packet p s = record { office = s.office; warden = s.warden; reader = s.reader; bag = p ∷ s.bag; log = s.log }

-- OPENING: the file begins with the records ss, which were synced; then come ps, and then no whole record
pub record Found (r : Role) (g : File) (ss ps : List Frame) (rest : List ℕ) : Type 0 where
  pub sure : g.synced ≡ encode_all ss
  pub splits : Splits r (contents g) (ss ++ ps) rest

-- a note's number and value have room in a record
abbrev pub Writable : (k : ℕ) → List ℕ → Type 0
Writable k v = (k < 2 ^ 32) × (length v ≤ 64)

-- WRITING ANEW: what stands beside is synced, and has records fs of the same meaning as those of the file that are synced
pub record Anew {S : Type 0} (r : Role) (meaning : List Frame → S) (d : Disk) : Type 0 where
  pub old : List Frame
  pub new : List Frame
  pub sure : d.file.synced ≡ encode_all old
  pub read : Records r old
  pub beside : d.beside ≡ record { synced = encode_all new; pending = [] }
  pub records : Records r new
  pub same : meaning new ≡ meaning old

-- what can happen, with n wardens; those of `liar` may send anything, and f is the number of liars that is reckoned with
pub data Move (n f : ℕ) (liar : ℕ → Bool) : System → System → Type 0 where
  -- the office is told to write a note whose number and value have room on its file; it is time to send again; a packet comes to it
  writes : {s : System} (k : ℕ) (v : List ℕ) → Writable k v → s.office.up ≡ true → Move n f liar s (by_office n k (office_writes s.office.memory k v) s)
  office_tick : {s : System} → s.office.up ≡ true → Move n f liar s (office_posts n (office_ticks s.office.memory) s)
  office_hear : {s : System} (p : Packet) → s.office.up ≡ true → Memᴰ p s.bag → p.to ≡ office →
      Move n f liar s (by_office n p.note (office_hears n f s.office.memory p.from p.note p.message) s)
  -- the same, but the file cannot be written or synced, or the power fails meanwhile
  write_stops : {s : System} (k : ℕ) (v : List ℕ) (j : ℕ) (m : Office) → Writable k v → s.office.up ≡ true → Move n f liar s (office_stops k (office_writes s.office.memory k v) j m s)
  hear_stops : {s : System} (p : Packet) (j : ℕ) (m : Office) → s.office.up ≡ true → Memᴰ p s.bag → p.to ≡ office →
      Move n f liar s (office_stops p.note (office_hears n f s.office.memory p.from p.note p.message) j m s)
  -- the office falls; it opens its file; it writes beside, and renames what it wrote
  office_falls : {s : System} (d : Disk) (m : Office) → Cut s.office.disk d → Move n f liar s (with_office (fallen d m) s)
  office_opens : {s : System} (ss ps : List Frame) (rest : List ℕ) → s.office.up ≡ false → Found roles.Office s.office.disk.file ss ps rest → Move n f liar s (office_opened ss ps s)
  office_scribbles : {s : System} (g : File) → Move n f liar s (with_office (with_disk (with_beside g s.office.disk) s.office) s)
  office_renames : {s : System} (m : Office) → Anew roles.Office office_of s.office.disk → Move n f liar s (with_office (fallen (rename s.office.disk) m) s)
  -- a packet comes to an honest warden; it syncs, and answers
  warden_hear : {s : System} (i : ℕ) (p : Packet) → i < n → liar i ≡ false → (s.warden i).up ≡ true → Memᴰ p s.bag → p.to ≡ i →
      Move n f liar s (with_warden i (stepped n i p.note (warden_keeps (s.warden i).memory.notes p.from p.note p.message) (s.warden i)) s)
  warden_flushes : {s : System} (i : ℕ) (fs : List Frame) → i < n → liar i ≡ false → (s.warden i).up ≡ true → (s.warden i).disk.file.pending ≡ encode_all fs → Records roles.Warden fs →
      Move n f liar s (warden_flushed i fs s)
  -- it falls, or cannot write or sync; it opens its file; it writes beside, and renames what it wrote; it loses its file
  warden_falls : {s : System} (i : ℕ) (d : Disk) (m : Warden) → i < n → liar i ≡ false → Cut (s.warden i).disk d → Move n f liar s (with_warden i (fallen d m) s)
  warden_opens : {s : System} (i : ℕ) (ss ps : List Frame) (rest : List ℕ) → i < n → liar i ≡ false → (s.warden i).up ≡ false → Found roles.Warden (s.warden i).disk.file ss ps rest →
      Move n f liar s (warden_opened i ss ps s)
  warden_scribbles : {s : System} (i : ℕ) (g : File) → i < n → liar i ≡ false → Move n f liar s (with_warden i (with_disk (with_beside g (s.warden i).disk) (s.warden i)) s)
  warden_renames : {s : System} (i : ℕ) (m : Warden) → i < n → liar i ≡ false → Anew roles.Warden warden_of (s.warden i).disk →
      Move n f liar s (with_warden i (fallen (rename (s.warden i).disk) m) s)
  loses : {s : System} (i : ℕ) → Move n f liar s (warden_lost i s)
  -- an honest reader is told to read; it is time to ask again; a packet comes to it; it starts again
  reads : {s : System} (j k : ℕ) → liar j ≡ false → Move n f liar s (by_reader n j (read_on (s.reader j) k) s)
  reader_ticks : {s : System} (j : ℕ) → liar j ≡ false → Move n f liar s (by_reader n j (reader_tick n f (s.reader j)) s)
  reader_hears : {s : System} (j : ℕ) (p : Packet) → liar j ≡ false → Memᴰ p s.bag → p.to ≡ j →
      Move n f liar s (by_reader n j (reader_on n f (s.reader j) p.from p.note p.message) s)
  reader_restarts : {s : System} (j first : ℕ) → (s.reader j).next ≤ first → Move n f liar s (reader_restarted j first s)
  -- who is not honest, be it a warden or a stranger, sends what it likes to whom it likes, as from itself
  lies : {s : System} (p : Packet) → liar p.from ≡ true → (p.from ≢ office) → Move n f liar s (with_packet p s)

pub data Run (n f : ℕ) (liar : ℕ → Bool) : System → Type 0 where
  begin : Run n f liar boot
  then : {s t : System} → Run n f liar s → Move n f liar s t → Run n f liar t

-- every run is one without files, with the same log; nothing is on its way but what is there too
pub record Covered (n f : ℕ) (liar : ℕ → Bool) (s : System) : Type 0 where
  pub without_files : tables.System
  pub run : tables.Run n f liar without_files
  pub log : without_files.log ≡ s.log
  pub reader : without_files.reader ≡ s.reader
  pub bag : (p : Packet) → Memᴰ p s.bag → Memᴰ p without_files.bag

abbrev pub Refines : Type 0
Refines = (n f : ℕ) (liar : ℕ → Bool) → 4 * f < n → (s : System) → Run n f liar s → Covered n f liar s

-- THE THEOREM: the log of every run is good
abbrev pub Holds : Type 0
Holds = (n f : ℕ) (liar : ℕ → Bool) → 4 * f < n → (s : System) → Run n f liar s → Good n f liar s.log
