-- What is promised of a log. Every layer's theorem is that the log of each of its runs is good.
-- Assumes nothing.
use Rattle.std.specs.Prelude.{◌≡◌, ℕ, ◌+◌, ◌<◌, ◌≤◌, Bool, true, ◌||◌, ◌⊎◌, List, [], ◌∷◌, ◌++◌, nat_le}
use mathlib.Core.List.{Memᴰ}
use Rattle.register.specs.Count.{count}
use Rattle.protocol.specs.Log.{Event, Began, Ended, Took, Lost, Asked, Retried, Read, Unsure, Log, high, held, lapsed, before_round, reading, retried_since}
use Rattle.protocol.specs.Reader.{more_rounds}

-- THE HYPOTHESIS, for each round: no more wardens than f lie, or were behind at some moment of it
abbrev pub Few : (n f : ℕ) (liar : ℕ → Bool) (j k : ℕ) → Log → Type 0
Few n f liar j k l = count n (λ i. liar i || lapsed i j k l) ≤ f

-- all wardens but f, liars counted in, have had the edition e of k
abbrev pub Settled : (n f : ℕ) (liar : ℕ → Bool) (k e : ℕ) → Log → Type 0
Settled n f liar k e l = n ≤ count n (λ i. liar i || nat_le e (high i k l)) + f

-- some writing of k was under way since j last began a round: one has begun that had not come to an end then
abbrev pub Busy : (j k : ℕ) → Log → Type 0
Busy j k l = (e : ℕ) × (v : List ℕ) × Memᴰ (Began k e v) l × (Memᴰ (Ended k e) (before_round j l) → ⊥)

-- j may say, after l, that it reads the edition e of k, and that it is v
pub record RightRead (n f : ℕ) (liar : ℕ → Bool) (l : Log) (j k e : ℕ) (v : List ℕ) : Type 0 where
  -- it answers a question of its own, and once
  pub due : reading j k l ≡ true
  -- the office wrote it, or nothing was written; for this it is enough that no more than f lie
  pub written : count n liar ≤ f → Memᴰ (Began k e v) l ⊎ ((e ≡ 0) × (v ≡ []))
  -- it is no older than any edition whose writing had come to an end when the round began
  pub fresh : Few n f liar j k l → (e' : ℕ) → Memᴰ (Ended k e') (before_round j l) → e' ≤ e
  -- nor than any that all wardens but f had had by then
  pub fresh_held : Few n f liar j k l → (e' : ℕ) → Settled n f liar k e' (before_round j l) → e' ≤ e

-- j may say, after l, that a round of its reading of k read nothing: only if something was being written meanwhile
pub record RightRetried (n f : ℕ) (liar : ℕ → Bool) (l : Log) (j k : ℕ) : Type 0 where
  pub due : reading j k l ≡ true
  pub busy : Few n f liar j k l → Busy j k l
  -- a reading has no more than 20 rounds
  pub more : retried_since j l < more_rounds

-- j may say, after l, that it is unsure: after 20 rounds
pub record RightUnsure (n f : ℕ) (liar : ℕ → Bool) (l : Log) (j k : ℕ) : Type 0 where
  pub due : reading j k l ≡ true
  pub busy : Few n f liar j k l → Busy j k l
  pub last : retried_since j l ≡ more_rounds

-- the office may begin, after l, to write the edition e of k: its editions rise, and it writes one at a time
pub record RightBegan (l : Log) (k e : ℕ) : Type 0 where
  pub some : 1 ≤ e
  pub next : (e' : ℕ) (v : List ℕ) → Memᴰ (Began k e' v) l → (e' < e) × Memᴰ (Ended k e') l

-- that may come to an end which was begun, and once, and which all wardens but f have had
pub record RightEnded (n f : ℕ) (liar : ℕ → Bool) (l : Log) (k e : ℕ) : Type 0 where
  pub begun : (v : List ℕ) × Memᴰ (Began k e v) l
  pub once : Memᴰ (Ended k e) l → ⊥
  pub settled : Settled n f liar k e l

-- a warden takes nothing that was not begun, and nothing but a later edition than it has
pub record RightTook (l : Log) (i k e : ℕ) : Type 0 where
  pub begun : (v : List ℕ) × Memᴰ (Began k e v) l
  pub later : held i k l < e

-- x may come to pass after l
abbrev pub Right : (n f : ℕ) (liar : ℕ → Bool) → Log → Event → Type 0
Right n f liar l (Began k e v) = RightBegan l k e
Right n f liar l (Ended k e) = RightEnded n f liar l k e
Right n f liar l (Took i k e) = RightTook l i k e
Right n f liar l (Lost i) = Unit {0}
Right n f liar l (Asked j k) = Unit {0}
Right n f liar l (Retried j k) = RightRetried n f liar l j k
Right n f liar l (Read j k e v) = RightRead n f liar l j k e v
Right n f liar l (Unsure j k) = RightUnsure n f liar l j k

-- THE PROMISE: each event of the log was right when it came to pass
abbrev pub Good : (n f : ℕ) (liar : ℕ → Bool) → Log → Type 0
Good n f liar log = (later l : Log) (x : Event) → log ≡ later ++ (x ∷ l) → Right n f liar l x
