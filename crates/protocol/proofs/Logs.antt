-- What a log says after one more event.
-- Assumes nothing.
use Rattle.std.proofs.Common.{◌≡◌, ℕ, suc, ◌<◌, ◌≤◌, max, Bool, true, cond, eqb, List, [], ◌∷◌, ◌++◌, ap, arith}
use mathlib.Core.List.Memᴰ
use mathlib.Core.List.{Memᴰ}
use Rattle.std.proofs.lemmas.Bool.{cond_both}
use Rattle.protocol.specs.Log.{Event, Began, Ended, Took, Lost, Asked, Retried, Read, Unsure, Log, opens, high, behind, lapsed, before_round}
use Rattle.protocol.specs.Promise.{Right, Good}

-- the edition of k whose writing ends in it, else 0
abbrev pub ended_in : (k : ℕ) → Event → ℕ
ended_in k (Began k' e v) = 0
ended_in k (Ended k' e) = cond (eqb k k') e 0
ended_in k (Took i k' e) = 0
ended_in k (Lost i) = 0
ended_in k (Asked j k') = 0
ended_in k (Retried j k') = 0
ended_in k (Read j k' e v) = 0
ended_in k (Unsure j k') = 0

-- the highest edition of k whose writing has ended
abbrev pub last_ended : (k : ℕ) → Log → ℕ
last_ended k [] = 0
last_ended k (x ∷ l) = max (ended_in k x) (last_ended k l)

pub ended_most : (k e : ℕ) (l : Log) → Memᴰ (Ended k e) l → e ≤ last_ended k l
ended_most k e [] m = absurd (Memᴰ.not-nil m)
ended_most k e (x ∷ l) (Memᴰ.head is) = let same : ended_in k (Ended k e) ≡ ended_in k x = ap (ended_in k) is in grind arith
ended_most k e (x ∷ l) (Memᴰ.tail m) = omega (arith, ended_most k e l m)

-- one more than the edition of k that begins in it, else 0
abbrev pub begun_in : (k : ℕ) → Event → ℕ
begun_in k (Began k' e v) = cond (eqb k k') (suc e) 0
begun_in k (Ended k' e) = 0
begun_in k (Took i k' e) = 0
begun_in k (Lost i) = 0
begun_in k (Asked j k') = 0
begun_in k (Retried j k') = 0
begun_in k (Read j k' e v) = 0
begun_in k (Unsure j k') = 0

abbrev pub last_begun : (k : ℕ) → Log → ℕ
last_begun k [] = 0
last_begun k (x ∷ l) = max (begun_in k x) (last_begun k l)

pub begun_most : (k e : ℕ) (v : List ℕ) (l : Log) → Memᴰ (Began k e v) l → e < last_begun k l
begun_most k e v [] m = absurd (Memᴰ.not-nil m)
begun_most k e v (x ∷ l) (Memᴰ.head is) = let same : begun_in k (Began k e v) ≡ begun_in k x = ap (begun_in k) is in grind arith
begun_most k e v (x ∷ l) (Memᴰ.tail m) = omega (arith, begun_most k e v l m)

pub not_begun : (k e : ℕ) (v : List ℕ) (x : Event) → begun_in k x ≡ 0 → Began k e v ≡ x → ⊥
not_begun k e v x none is = let same : begun_in k (Began k e v) ≡ begun_in k x = ap (begun_in k) is in grind arith

pub before_ended : (j k : ℕ) (l : Log) → last_ended k (before_round j l) ≤ last_ended k l
before_ended j k [] = omega arith
before_ended j k (x ∷ l) =
    cond_both (opens j x) l (before_round j l) (λ b. last_ended k b ≤ last_ended k (x ∷ l)) (λ _. omega arith) (λ _. omega (arith, before_ended j k l))

pub before_high : (i j k : ℕ) (l : Log) → high i k (before_round j l) ≤ high i k l
before_high i j k [] = omega arith
before_high i j k (x ∷ l) =
    cond_both (opens j x) l (before_round j l) (λ b. high i k b ≤ high i k (x ∷ l)) (λ _. omega arith) (λ _. omega (arith, before_high i j k l))

pub behind_lapsed : (i j k : ℕ) (l : Log) → behind i k l ≡ true → lapsed i j k l ≡ true
behind_lapsed i j k [] e = e
behind_lapsed i j k (x ∷ l) e = rw e

-- one more place
pub good_more : (n f : ℕ) (liar : ℕ → Bool) (l : Log) (x : Event) → Right n f liar l x → Good n f liar l → Good n f liar (x ∷ l)
good_more n f liar l x right good [] l' x' e =
    let head : x ≡ x' = cc in
    let tail : l ≡ l' = cc in
    rw (← head, ← tail) right
good_more n f liar l x right good (y ∷ later) l' x' e = good later l' x' (cc)

-- each is right where it stands
abbrev pub Rights : (n f : ℕ) (liar : ℕ → Bool) → List Event → Log → Type 0
Rights n f liar [] l = Unit {0}
Rights n f liar (x ∷ xs) l = Right n f liar (xs ++ l) x × Rights n f liar xs l

pub rights_good : (n f : ℕ) (liar : ℕ → Bool) (xs : List Event) (l : Log) → Rights n f liar xs l → Good n f liar l → Good n f liar (xs ++ l)
rights_good n f liar [] l right good = good
rights_good n f liar (x ∷ xs) l (right, rest) good = good_more n f liar (xs ++ l) x right (rights_good n f liar xs l rest good)
