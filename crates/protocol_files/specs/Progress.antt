-- Whatever fell before, the honest alone bring all parties up, and bring a writing and a reading to an end.
-- Assumes nothing.
use Rattle.std.specs.Prelude.{◌≡◌, ℕ, ◌+◌, ◌*◌, ◌<◌, ◌≤◌, Bool, true, false, [], ◌∷◌, ◌++◌}
use mathlib.Core.List.{Memᴰ}
use Rattle.register.specs.Count.{count}
use Rattle.register.specs.Note.{Note}
use Rattle.register.specs.Rule.{answers}
use Rattle.protocol.specs.Message.{Packet}
use Rattle.protocol.specs.Reader.{last_round, read_on}
use Rattle.protocol.specs.Log.{Read, Unsure, Log}
use Rattle.protocol.specs.Promise.{Few}
use Rattle.protocol.specs.Progress.{honest}
use Rattle.protocol_files.specs.Nodes.{Node, Warden}
use Rattle.protocol_files.specs.System.{System, has_ended, by_reader, Move, writes, office_tick, office_hear, write_stops, hear_stops, office_falls, office_opens, office_scribbles, office_renames, warden_hear, warden_flushes, warden_falls, warden_opens, warden_scribbles, warden_renames, loses, reads, reader_ticks, reader_hears, reader_restarts, lies, Run}

-- a move in which no liar and no stranger has a part, in which nobody falls, nothing is lost or forgotten, and nothing new is asked for
abbrev pub fair : {n f : ℕ} {liar : ℕ → Bool} {s t : System} → Move n f liar s t → Bool
fair (writes k v fits up) = false
fair (office_tick up) = true
fair {liar = liar} (office_hear p up m to) = honest liar p.from
fair (write_stops k v j left fits up) = false
fair (hear_stops p j left up m to) = false
fair (office_falls d left fall) = false
fair (office_opens ss ps rest down found) = true
fair (office_scribbles g) = false
fair (office_renames left anew) = false
fair {liar = liar} (warden_hear i p below own up m to) = honest liar p.from
fair (warden_flushes i fs below own up pending records) = true
fair (warden_falls i d left below own fall) = false
fair (warden_opens i ss ps rest below own down found) = true
fair (warden_scribbles i g below own) = false
fair (warden_renames i left below own anew) = false
fair (loses i) = false
fair (reads j k own) = false
fair (reader_ticks j own) = true
fair {liar = liar} (reader_hears j p own m to) = honest liar p.from
fair (reader_restarts j first up) = false
fair (lies p so other) = false

-- from one system to another by such moves
pub data Way (n f : ℕ) (liar : ℕ → Bool) : System → System → Type 0 where
  here : {s : System} → Way n f liar s s
  next : {s t u : System} (m : Move n f liar s t) → fair m ≡ true → Way n f liar t u → Way n f liar s u

-- no reader has changed; what was on its way is so still, and the log has only grown
pub record Onward (s t : System) : Type 0 where
  pub reader : t.reader ≡ s.reader
  pub bag : (p : Packet) → Memᴰ p s.bag → Memᴰ p t.bag
  pub more : Log
  pub log : t.log ≡ more ++ s.log

-- ALL ARE AT WORK: a warden with all that it wrote synced
pub record Awake (c : Node Warden) : Type 0 where
  pub up : c.up ≡ true
  pub synced : c.disk.file.pending ≡ []

pub record AllUp (n : ℕ) (liar : ℕ → Bool) (s : System) : Type 0 where
  pub office : s.office.up ≡ true
  pub warden : (i : ℕ) → i < n → liar i ≡ false → Awake (s.warden i)

-- the office and every honest warden come up; an office that is at work stays as it is
pub record Up (n f : ℕ) (liar : ℕ → Bool) (s t : System) : Type 0 where
  pub way : Way n f liar s t
  pub onward : Onward s t
  pub all : AllUp n liar t
  pub office : s.office.up ≡ true → t.office ≡ s.office

abbrev pub ComesUp : Type 0
ComesUp = (n f : ℕ) (liar : ℕ → Bool) → 4 * f < n → (s : System) → Run n f liar s → (t : System) × Up n f liar s t

-- A WRITING that is under way comes to its end
pub record Ends (n f : ℕ) (liar : ℕ → Bool) (k : ℕ) (s t : System) : Type 0 where
  pub way : Way n f liar s t
  pub onward : Onward s t
  pub up : t.office.up ≡ true
  pub now : (t.office.memory.desks.at k).now ≡ (s.office.memory.desks.at k).now
  pub closed : (t.office.memory.desks.at k).busy ≡ false
  pub ended : has_ended k (s.office.memory.desks.at k).now.edition t.log ≡ true

abbrev pub WritingEnds : Type 0
WritingEnds =
    (n f : ℕ) (liar : ℕ → Bool) → 4 * f < n → count n liar ≤ f → (s : System) → Run n f liar s → (k : ℕ) → s.office.up ≡ true → (s.office.memory.desks.at k).busy ≡ true →
    (t : System) × Ends n f liar k s t

-- A ROUND: what it comes to when all but f have told; xs: what wardens took meanwhile that came up, or had yet to sync it
pub data Decision (j : ℕ) (s t : System) (xs : Log) : Type 0 where
  sure : (x : Note) → t.log ≡ Read j (s.reader j).note x.edition x.value ∷ (xs ++ s.log) → Decision j s t xs
  doubtful : (s.reader j).left ≡ 0 → t.log ≡ Unsure j (s.reader j).note ∷ (xs ++ s.log) → Decision j s t xs
  -- the next tick begins another
  open_still : (t.reader j).busy ≡ true → 0 < (s.reader j).left → t.log ≡ xs ++ s.log → Decision j s t xs

-- the same round, told by all but f
pub record Decided (n f : ℕ) (liar : ℕ → Bool) (j : ℕ) (s t : System) : Type 0 where
  pub way : Way n f liar s t
  pub note : (t.reader j).note ≡ (s.reader j).note
  pub round : (t.reader j).round ≡ (s.reader j).round
  pub next : (t.reader j).next ≡ (s.reader j).next
  pub left : (t.reader j).left ≡ (s.reader j).left
  pub told : n ≤ answers n (t.reader j).replies + f
  pub office : t.office ≡ s.office
  pub more : Log
  pub decision : Decision j s t more

-- the present round of a reader that reads is told by all but f, and decided
abbrev pub RoundEnds : Type 0
RoundEnds =
    (n f : ℕ) (liar : ℕ → Bool) → 4 * f < n → count n liar ≤ f → (s : System) → Run n f liar s → (j : ℕ) → liar j ≡ false → (s.reader j).busy ≡ true → (t : System) × Decided n f liar j s t

-- the reader j has just begun to read k
abbrev pub reading_from : (n j k : ℕ) → System → System
reading_from n j k s = by_reader n j (read_on (s.reader j) k) s

-- A READING that begins while all are at work, and the note is not being written, reads what was written last
abbrev pub ReadingAnswers : Type 0
ReadingAnswers =
    (n f : ℕ) (liar : ℕ → Bool) → 4 * f < n → (s : System) → Run n f liar s → AllUp n liar s → (j k : ℕ) → liar j ≡ false → (s.reader j).next < last_round →
    (s.office.memory.desks.at k).busy ≡ false → Few n f liar j k (reading_from n j k s).log →
    (t : System) × Way n f liar (reading_from n j k s) t × (t.log ≡ Read j k (s.office.memory.desks.at k).now.edition (s.office.memory.desks.at k).now.value ∷ (reading_from n j k s).log)
