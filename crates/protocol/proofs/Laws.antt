-- What follows from a good log alone.
-- Assumes nothing.
use Rattle.std.proofs.Common.{◌≡◌, ℕ, Bool, List, [], ◌∷◌, refl, ap, arith}
use mathlib.Core.List.Memᴰ
use mathlib.Core.List.{Memᴰ}
use Rattle.std.proofs.lemmas.Bool.{cond_both}
use Rattle.protocol.specs.Log.{Event, Began, Ended, Read, Log, asks, opens, before_round, before_reading}
use Rattle.protocol.specs.Promise.{Good}
use Rattle.protocol.specs.Laws.{GoodLogs}

-- what came to pass before the round is in the log; and what came before the reading came before the round
before_in : (j : ℕ) (x : Event) (l : Log) → Memᴰ x (before_round j l) → Memᴰ x l
before_in j x [] = λ m. m
before_in j x (y ∷ l) =
    cond_both (opens j y) l (before_round j l) (λ b. Memᴰ x b → Memᴰ x (y ∷ l)) (λ _ m. Memᴰ.tail m) (λ _ m. Memᴰ.tail (before_in j x l m))

reading_in : (j : ℕ) (x : Event) (l : Log) → Memᴰ x (before_reading j l) → Memᴰ x l
reading_in j x [] = λ m. m
reading_in j x (y ∷ l) =
    cond_both (asks j y) l (before_reading j l) (λ b. Memᴰ x b → Memᴰ x (y ∷ l)) (λ _ m. Memᴰ.tail m) (λ _ m. Memᴰ.tail (reading_in j x l m))

earlier : (j : ℕ) (x : Event) (l : Log) → Memᴰ x (before_reading j l) → Memᴰ x (before_round j l)
earlier j x [] = λ m. m
earlier j x (y ∷ l) =
    cond_both (asks j y) l (before_reading j l) (λ b. Memᴰ x b → Memᴰ x (before_round j (y ∷ l)))
    (λ so m. rw so m)
    (λ so m. cond_both (opens j y) l (before_round j l) (Memᴰ x) (λ _. reading_in j x l m) (λ _. earlier j x l m))

module _ (n f : ℕ) (liar : ℕ → Bool) where
  good_tail : (x : Event) (l : Log) → Good n f liar (x ∷ l) → Good n f liar l
  good_tail x l good later l' x' e = good (x ∷ later) l' x' (ap (λ (l : Log). x ∷ l) e)

  -- the edition that begins is above all that began before
  above : (k e : ℕ) (v : List ℕ) (l : Log) → Good n f liar (Began k e v ∷ l) → (v' : List ℕ) → Memᴰ (Began k e v') l → ⊥
  above k e v l good v' m = let (less, _) = (good [] l (Began k e v) refl).next e v' m in omega arith

  one_value : (k e : ℕ) (v v' : List ℕ) (l : Log) → Good n f liar l → Memᴰ (Began k e v) l → Memᴰ (Began k e v') l → v ≡ v'
  one_value k e v v' [] good m m' = absurd (Memᴰ.not-nil m)
  one_value k e v v' (x ∷ l) good (Memᴰ.head is) (Memᴰ.head is') = cc
  one_value k e v v' (x ∷ l) good (Memᴰ.head is) (Memᴰ.tail m') = absurd (above k e v l (rw (← is) at good) v' m')
  one_value k e v v' (x ∷ l) good (Memᴰ.tail m) (Memᴰ.head is') = absurd (above k e v' l (rw (← is') at good) v m)
  one_value k e v v' (x ∷ l) good (Memᴰ.tail m) (Memᴰ.tail m') = one_value k e v v' l (good_tail x l good) m m'

pub good_logs : GoodLogs
good_logs n f liar log good =
    record {
      one_value = λ k e v v'. one_value n f liar k e v v' log good;
      fresh = λ later l j k e v is few e' m. (good later l (Read j k e v) is).fresh few e' (earlier j (Ended k e') l m);
      last = λ later l j k e v is few calm e' v' m. (good later l (Read j k e v) is).fresh few e' (calm e' v' m);
    }
