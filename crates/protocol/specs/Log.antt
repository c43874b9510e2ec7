-- What happens, as it is seen from outside.
-- Assumes nothing.
use Rattle.std.specs.Prelude.{ℕ, ◌+◌, max, Bool, false, cond, not, ◌&&◌, ◌||◌, List, [], ◌∷◌, ◌==◌, nat_lt}

-- k is a note, e an edition of it, v its value then; i is a warden, j a reader
pub data Event : Type 0 where
  -- the office has begun to write an edition; its writing has come to an end
  Began : (k e : ℕ) (v : List ℕ) → Event
  Ended : (k e : ℕ) → Event
  -- a warden has an edition, and keeps it; a warden has lost all that it had
  Took : (i k e : ℕ) → Event
  Lost : (i : ℕ) → Event
  -- a reader begins to read; its round read nothing, and it begins another; it reads an edition; it is unsure
  Asked : (j k : ℕ) → Event
  Retried : (j k : ℕ) → Event
  Read : (j k e : ℕ) (v : List ℕ) → Event
  Unsure : (j k : ℕ) → Event

-- the newest first: what follows an event came to pass before it
abbrev pub Log : Type 0
Log = List Event

-- WHAT ONE EVENT SAYS
-- the edition of k that i took in it, else 0
abbrev pub took : (i k : ℕ) → Event → ℕ
took i k (Began k' e v) = 0
took i k (Ended k' e) = 0
took i k (Took i' k' e) = cond (i == i' && k == k') e 0
took i k (Lost i') = 0
took i k (Asked j k') = 0
took i k (Retried j k') = 0
took i k (Read j k' e v) = 0
took i k (Unsure j k') = 0

abbrev pub lost : (i : ℕ) → Event → Bool
lost i (Began k e v) = false
lost i (Ended k e) = false
lost i (Took i' k e) = false
lost i (Lost i') = i == i'
lost i (Asked j k) = false
lost i (Retried j k) = false
lost i (Read j k e v) = false
lost i (Unsure j k) = false

-- j begins a reading; another round of its reading
abbrev pub asks : (j : ℕ) → Event → Bool
asks j (Began k e v) = false
asks j (Ended k e) = false
asks j (Took i k e) = false
asks j (Lost i) = false
asks j (Asked j' k) = j == j'
asks j (Retried j' k) = false
asks j (Read j' k e v) = false
asks j (Unsure j' k) = false

abbrev pub retries : (j : ℕ) → Event → Bool
retries j (Began k e v) = false
retries j (Ended k e) = false
retries j (Took i k e) = false
retries j (Lost i) = false
retries j (Asked j' k) = false
retries j (Retried j' k) = j == j'
retries j (Read j' k e v) = false
retries j (Unsure j' k) = false

-- j begins a round, the first of a reading or another
abbrev pub opens : (j : ℕ) → Event → Bool
opens j x = asks j x || retries j x

-- j begins a round of a reading of k
abbrev pub opens_for : (j k : ℕ) → Event → Bool
opens_for j k (Began k' e v) = false
opens_for j k (Ended k' e) = false
opens_for j k (Took i k' e) = false
opens_for j k (Lost i) = false
opens_for j k (Asked j' k') = j == j' && k == k'
opens_for j k (Retried j' k') = j == j' && k == k'
opens_for j k (Read j' k' e v) = false
opens_for j k (Unsure j' k') = false

-- j says it
abbrev pub by : (j : ℕ) → Event → Bool
by j (Began k e v) = false
by j (Ended k e) = false
by j (Took i k e) = false
by j (Lost i) = false
by j (Asked j' k) = j == j'
by j (Retried j' k) = j == j'
by j (Read j' k e v) = j == j'
by j (Unsure j' k) = j == j'

-- WHAT A LOG SAYS
-- the highest edition of k that i ever took, and that it took since it last lost all
abbrev pub high : (i k : ℕ) → Log → ℕ
high i k [] = 0
high i k (x ∷ l) = max (took i k x) (high i k l)

abbrev pub held : (i k : ℕ) → Log → ℕ
held i k [] = 0
held i k (x ∷ l) = cond (lost i x) 0 (max (took i k x) (held i k l))

-- i once had a later edition of k than it has
abbrev pub behind : (i k : ℕ) → Log → Bool
behind i k l = nat_lt (held i k l) (high i k l)

-- i was behind at some moment since j last began a round
abbrev pub lapsed : (i j k : ℕ) → Log → Bool
lapsed i j k [] = false
lapsed i j k (x ∷ l) = behind i k (x ∷ l) || (not (opens j x) && lapsed i j k l)

-- what came to pass before j last began a round; and before it last began a reading
abbrev pub before_round : (j : ℕ) → Log → Log
before_round j [] = []
before_round j (x ∷ l) = cond (opens j x) l (before_round j l)

abbrev pub before_reading : (j : ℕ) → Log → Log
before_reading j [] = []
before_reading j (x ∷ l) = cond (asks j x) l (before_reading j l)

-- the last that j said is that it begins a round of a reading of k
abbrev pub reading : (j k : ℕ) → Log → Bool
reading j k [] = false
reading j k (x ∷ l) = cond (by j x) (opens_for j k x) (reading j k l)

-- how many more rounds than one j has begun since it last began a reading
abbrev pub retried_since : (j : ℕ) → Log → ℕ
retried_since j [] = 0
retried_since j (x ∷ l) = cond (asks j x) 0 (cond (retries j x) 1 0 + retried_since j l)
