-- A writing and a reading come to an end by the honest alone.
-- Assumes nothing.
use Rattle.std.specs.Prelude.{◌≡◌, ℕ, ◌+◌, ◌*◌, ◌<◌, ◌≤◌, Bool, true, false, not, ◌||◌, ◌⊎◌, List, ◌∷◌, ◌++◌, ◌==◌}
use Rattle.register.specs.Count.{count}
use Rattle.register.specs.Note.{Note}
use Rattle.register.specs.Rule.{answers}
use Rattle.register.specs.Progress.{missing}
use Rattle.protocol.specs.Message.{office, Took, Told}
use Rattle.protocol.specs.Office.{office_on}
use Rattle.protocol.specs.Reader.{last_round, read_on, awaits_told, reader_on}
use Rattle.protocol.specs.Log.{Event, Ended, Read, Unsure}
use Rattle.protocol.specs.Promise.{Few, Busy}
use Rattle.protocol.specs.System.{System, by_reader, Move, writes, office_ticks, office_hears, warden_hears, reads, reader_ticks, reader_hears, office_restarts, reader_restarts, lies, loses, Run}

-- the office, or a party that does not lie
abbrev pub honest : (liar : ℕ → Bool) → ℕ → Bool
honest liar p = p == office || not (liar p)

-- a move in which no liar and no stranger has a part, in which nothing is lost or forgotten, and nothing new is asked for
abbrev pub fair : {n f : ℕ} {liar : ℕ → Bool} {s t : System} → Move n f liar s t → Bool
fair (writes k v) = false
fair (office_ticks k) = true
fair {liar = liar} (office_hears p m to) = honest liar p.from
fair {liar = liar} (warden_hears i p l so m to) = honest liar p.from
fair (reads j k so) = false
fair (reader_ticks j so) = true
fair {liar = liar} (reader_hears j p so m to) = honest liar p.from
fair office_restarts = false
fair (reader_restarts j first up) = false
fair (lies p so other) = false
fair (loses i) = false

-- from one system to another by such moves
pub data Way (n f : ℕ) (liar : ℕ → Bool) : System → System → Type 0 where
  here : {s : System} → Way n f liar s s
  next : {s t u : System} (m : Move n f liar s t) → fair m ≡ true → Way n f liar t u → Way n f liar s u

-- a writing that is under way comes to its end, whatever else has happened; and no reader is touched by it
abbrev pub WritingEnds : Type 0
WritingEnds =
    (n f : ℕ) (liar : ℕ → Bool) → 4 * f < n → count n liar ≤ f → (s : System) → Run n f liar s → (k : ℕ) → (s.office k).busy ≡ true →
    (t : System) × (xs : List Event) × Way n f liar s t × (t.log ≡ Ended k (s.office k).now.edition ∷ (xs ++ s.log)) × (t.reader ≡ s.reader)

-- what a round comes to that was told by all but f
pub data Decision (j : ℕ) (s t : System) : Type 0 where
  sure : (x : Note) → t.log ≡ Read j (s.reader j).note x.edition x.value ∷ s.log → Decision j s t
  doubtful : (s.reader j).left ≡ 0 → t.log ≡ Unsure j (s.reader j).note ∷ s.log → Decision j s t
  -- the next tick begins another
  open_still : (t.reader j).busy ≡ true → 0 < (s.reader j).left → t.log ≡ s.log → Decision j s t

-- the same round, told by all but f; and nothing else has changed
pub record Decided (n f j : ℕ) (s t : System) : Type 0 where
  pub note : (t.reader j).note ≡ (s.reader j).note
  pub round : (t.reader j).round ≡ (s.reader j).round
  pub next : (t.reader j).next ≡ (s.reader j).next
  pub left : (t.reader j).left ≡ (s.reader j).left
  pub told : n ≤ answers n (t.reader j).replies + f
  pub office : t.office ≡ s.office
  pub warden : t.warden ≡ s.warden
  pub decision : Decision j s t

-- the present round of a reader that reads is told by all but f, and decided
abbrev pub RoundEnds : Type 0
RoundEnds =
    (n f : ℕ) (liar : ℕ → Bool) → 4 * f < n → count n liar ≤ f → (s : System) → Run n f liar s → (j : ℕ) → liar j ≡ false → (s.reader j).busy ≡ true →
    (t : System) × Way n f liar s t × Decided n f j s t

-- a reader that reads comes to read, if the note is not being written, and if it may begin another round or nothing was being written in this one
abbrev pub ReadingEnds : Type 0
ReadingEnds =
    (n f : ℕ) (liar : ℕ → Bool) → 4 * f < n → (s : System) → Run n f liar s → (j : ℕ) → liar j ≡ false → (s.reader j).busy ≡ true → (s.office (s.reader j).note).busy ≡ false →
    Few n f liar j (s.reader j).note s.log →
    ((0 < (s.reader j).left) × ((s.reader j).next < last_round)) ⊎ (Busy j (s.reader j).note s.log → ⊥) →
    (t : System) × Way n f liar s t × (x : Note) × (xs : List Event) × (t.log ≡ Read j (s.reader j).note x.edition x.value ∷ (xs ++ s.log))

-- the reader j has just begun to read k
abbrev pub reading_from : (n j k : ℕ) → System → System
reading_from n j k s = by_reader n j (read_on (s.reader j) k) s

-- and reads what was written last, if the note is not being written
abbrev pub ReadingAnswers : Type 0
ReadingAnswers =
    (n f : ℕ) (liar : ℕ → Bool) → 4 * f < n → (s : System) → Run n f liar s → (j k : ℕ) → liar j ≡ false → (s.reader j).next < last_round →
    (s.office k).busy ≡ false → Few n f liar j k (reading_from n j k s).log →
    (t : System) × Way n f liar (reading_from n j k s) t × (t.log ≡ Read j k (s.office k).now.edition (s.office k).now.value ∷ (reading_from n j k s).log)

-- the office or a reader starts again, and has forgotten whom it had heard
abbrev pub restarts : {n f : ℕ} {liar : ℕ → Bool} {s t : System} → Move n f liar s t → Bool
restarts (writes k v) = false
restarts (office_ticks k) = false
restarts (office_hears p m to) = false
restarts (warden_hears i p l so m to) = false
restarts (reads j k so) = false
restarts (reader_ticks j so) = false
restarts (reader_hears j p so m to) = false
restarts office_restarts = true
restarts (reader_restarts j first up) = true
restarts (lies p so other) = false
restarts (loses i) = false

-- how many of the honest are missing from a writing and from a round
abbrev pub unwritten : (n : ℕ) (liar : ℕ → Bool) (k : ℕ) → System → ℕ
unwritten n liar k s = missing n liar (s.office k).acks

abbrev pub unheard : (n : ℕ) (liar : ℕ → Bool) (j : ℕ) → System → ℕ
unheard n liar j s = missing n liar (s.reader j).replies.heard

pub record Measure (n f : ℕ) (liar : ℕ → Bool) (s : System) : Type 0 where
  -- no more after any move, a liar's too, as long as it is the same edition, or the same round
  pub writing_stays : (t : System) (m : Move n f liar s t) → restarts m ≡ false → (k : ℕ) → (t.office k).now.edition ≡ (s.office k).now.edition → unwritten n liar k t ≤ unwritten n liar k s
  pub round_stays : (t : System) (m : Move n f liar s t) → restarts m ≡ false → (j : ℕ) → (t.reader j).next ≡ (s.reader j).next → unheard n liar j t ≤ unheard n liar j s
  -- fewer when an honest warden is first heard
  pub writing_falls : (k i : ℕ) → i < n → liar i ≡ false → (s.office k).busy ≡ true → (s.office k).acks i ≡ false → missing n liar (office_on n f (s.office k) i (Took (s.office k).now.edition)).next.acks < unwritten n liar k s
  pub round_falls : (j i k r : ℕ) (x : Note) → i < n → liar i ≡ false → awaits_told n f i k r (s.reader j) ≡ true → missing n liar (reader_on n f (s.reader j) i k (Told r x)).next.replies.heard < unheard n liar j s
  -- and none is left before there are enough
  pub writing_enough : count n liar ≤ f → (k : ℕ) → unwritten n liar k s ≡ 0 → n ≤ count n (s.office k).acks + f
  pub round_enough : count n liar ≤ f → (j : ℕ) → unheard n liar j s ≡ 0 → n ≤ answers n (s.reader j).replies + f

-- so every run in which the messages of the honest come through, and nobody starts again, comes to its end
abbrev pub Measured : Type 0
Measured = (n f : ℕ) (liar : ℕ → Bool) (s : System) → Measure n f liar s
