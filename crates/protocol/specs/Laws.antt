-- What follows from a good log alone.
-- Assumes nothing.
use Rattle.std.specs.Prelude.{◌≡◌, ℕ, ◌≤◌, Bool, List, ◌∷◌, ◌++◌}
use mathlib.Core.List.{Memᴰ}
use Rattle.protocol.specs.Log.{Began, Ended, Read, Log, before_round, before_reading}
use Rattle.protocol.specs.Promise.{Few, Good}

-- every writing of k that has begun had come to an end when j last began a round
abbrev pub Calm : (j k : ℕ) → Log → Type 0
Calm j k l = (e : ℕ) (v : List ℕ) → Memᴰ (Began k e v) l → Memᴰ (Ended k e) (before_round j l)

pub record Laws (n f : ℕ) (liar : ℕ → Bool) (log : Log) : Type 0 where
  -- no edition of a note ever has two values
  pub one_value : (k e : ℕ) (v v' : List ℕ) → Memᴰ (Began k e v) log → Memᴰ (Began k e v') log → v ≡ v'
  -- what is read is no older than any edition whose writing had come to an end when the reading began
  pub fresh : (later l : Log) (j k e : ℕ) (v : List ℕ) → log ≡ later ++ (Read j k e v ∷ l) → Few n f liar j k l → (e' : ℕ) → Memᴰ (Ended k e') (before_reading j l) → e' ≤ e
  -- and if nothing was being written in the round, it is the last edition that was written
  pub last : (later l : Log) (j k e : ℕ) (v : List ℕ) → log ≡ later ++ (Read j k e v ∷ l) → Few n f liar j k l → Calm j k l → (e' : ℕ) (v' : List ℕ) → Memᴰ (Began k e' v') l → e' ≤ e

abbrev pub GoodLogs : Type 0
GoodLogs = (n f : ℕ) (liar : ℕ → Bool) (log : Log) → Good n f liar log → Laws n f liar log
