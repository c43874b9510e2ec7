-- A writing and a reading come to an end by the honest alone, with bounded tables too.
-- Assumes nothing.
use Rattle.std.specs.Prelude.{◌≡◌, ℕ, ◌*◌, ◌<◌, ◌≤◌, Bool, true, false, ◌⊎◌, List, ◌∷◌, ◌++◌, ◌≢◌}
use mathlib.Core.List.{Memᴰ}
use Rattle.register.specs.Count.{count}
use Rattle.register.specs.Note.{Note}
use Rattle.protocol.specs.Message.{Packet}
use Rattle.protocol.specs.Step.{Refused}
use Rattle.protocol.specs.Reader.{last_round, read_on}
use Rattle.protocol.specs.Log.{Event, Ended, Read}
use Rattle.protocol.specs.Promise.{Few, Busy}
use Rattle.protocol.specs.Progress.{honest, Decided}
use Rattle.protocol_tables.specs.Warden.{warden_keeps}
use Rattle.protocol_tables.specs.System.{System, by_reader, unbounded, Move, writes, office_tick, office_hear, warden_hear, reads, reader_ticks, reader_hears, office_restarts, reader_restarts, lies, loses, Run}

-- a move in which no liar and no stranger has a part, in which nothing is lost or forgotten, and nothing new is asked for
abbrev pub fair : {n f : ℕ} {liar : ℕ → Bool} {s t : System} → Move n f liar s t → Bool
fair (writes k v) = false
fair office_tick = true
fair {liar = liar} (office_hear p m to) = honest liar p.from
fair {liar = liar} (warden_hear i p l so m to) = honest liar p.from
fair (reads j k so) = false
fair (reader_ticks j so) = true
fair {liar = liar} (reader_hears j p so m to) = honest liar p.from
fair office_restarts = false
fair (reader_restarts j first up) = false
fair (lies p so other) = false
fair (loses i) = false

-- from one system to another by such moves
pub data Way (n f : ℕ) (liar : ℕ → Bool) : System → System → Type 0 where
  here : {s : System} → Way n f liar s s
  next : {s t u : System} (m : Move n f liar s t) → fair m ≡ true → Way n f liar t u → Way n f liar s u

-- an honest warden never turns a note away for want of room: the office has no more notes than a warden has room for
abbrev pub NeverFull : Type 0
NeverFull =
    (n f : ℕ) (liar : ℕ → Bool) (s : System) → Run n f liar s → (i : ℕ) (p : Packet) → Memᴰ p s.bag →
    (warden_keeps (s.warden i) p.from p.note p.message).outcome ≢ Refused 6

-- the writing of any note comes to its end, while others are being written
abbrev pub WritingEnds : Type 0
WritingEnds =
    (n f : ℕ) (liar : ℕ → Bool) → 4 * f < n → count n liar ≤ f → (s : System) → Run n f liar s → (k : ℕ) → (s.office.desks.at k).busy ≡ true →
    (t : System) × (xs : List Event) × Way n f liar s t × (t.log ≡ Ended k (s.office.desks.at k).now.edition ∷ (xs ++ s.log)) × (t.reader ≡ s.reader)

-- the present round of a reader that reads is told by all but f, and decided
abbrev pub RoundEnds : Type 0
RoundEnds =
    (n f : ℕ) (liar : ℕ → Bool) → 4 * f < n → count n liar ≤ f → (s : System) → Run n f liar s → (j : ℕ) → liar j ≡ false → (s.reader j).busy ≡ true →
    (t : System) × Way n f liar s t × Decided n f j (unbounded s) (unbounded t)

-- a reader that reads comes to read, if the note is not being written, and if it may begin another round or nothing was being written in this one
abbrev pub ReadingEnds : Type 0
ReadingEnds =
    (n f : ℕ) (liar : ℕ → Bool) → 4 * f < n → (s : System) → Run n f liar s → (j : ℕ) → liar j ≡ false → (s.reader j).busy ≡ true → (s.office.desks.at (s.reader j).note).busy ≡ false →
    Few n f liar j (s.reader j).note s.log →
    ((0 < (s.reader j).left) × ((s.reader j).next < last_round)) ⊎ (Busy j (s.reader j).note s.log → ⊥) →
    (t : System) × Way n f liar s t × (x : Note) × (xs : List Event) × (t.log ≡ Read j (s.reader j).note x.edition x.value ∷ (xs ++ s.log))

-- the reader j has just begun to read k
abbrev pub reading_from : (n j k : ℕ) → System → System
reading_from n j k s = by_reader n j (read_on (s.reader j) k) s

-- and reads what was written last, if the note is not being written
abbrev pub ReadingAnswers : Type 0
ReadingAnswers =
    (n f : ℕ) (liar : ℕ → Bool) → 4 * f < n → (s : System) → Run n f liar s → (j k : ℕ) → liar j ≡ false → (s.reader j).next < last_round →
    (s.office.desks.at k).busy ≡ false → Few n f liar j k (reading_from n j k s).log →
    (t : System) × Way n f liar (reading_from n j k s) t × (t.log ≡ Read j k (s.office.desks.at k).now.edition (s.office.desks.at k).now.value ∷ (reading_from n j k s).log)
