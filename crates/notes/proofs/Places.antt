-- What stands at a place of a list, seen through a function.
-- Assumes nothing.
use Rattle.std.proofs.Common.{◌≡◌, ℕ, zero, suc, ◌<◌, List, map, length, get_or, set, replicate, refl, arith}
use mathlib.Core.Path.{fun_ext}
use lib.ListN.{length-map}
use Rattle.std.proofs.lemmas.List.{get_or-set_other, map-set}
use Rattle.std.proofs.lemmas.Grind.{get_or-set_at}
use Rattle.register.specs.Count.{put}

module _ {A B : Type 0} (f : A → B) where
  -- the list with one place changed
  map_put : (xs : List A) (i : ℕ) (x : A) (d : B) → i < length xs → (j : ℕ) → get_or (map f (set xs i x)) j d ≡ put i (f x) (λ j. get_or (map f xs) j d) j
  map_put xs i x d l j = let l : i < length (map f xs) = rw (length-map xs f) l in rw (map-set f xs i x) (grind (arith, get_or-set_at, get_or-set_other))

  pub set_put : (xs : List A) (i : ℕ) (x : A) (d : B) → i < length xs → ◌≡◌ {A = ℕ → B} (λ j. get_or (map f (set xs i x)) j d) (put i (f x) (λ j. get_or (map f xs) j d))
  set_put xs i x d l = fun_ext (map_put xs i x d l)

  -- the list of one element only
  map_all : (a : A) (d : B) → f a ≡ d → (n j : ℕ) → get_or (map f (replicate n a)) j d ≡ d
  map_all a d e zero j = refl
  map_all a d e (suc n) zero = e
  map_all a d e (suc n) (suc j) = map_all a d e n j

  pub all_same : (a : A) (d : B) (n : ℕ) → f a ≡ d → ◌≡◌ {A = ℕ → B} (λ j. get_or (map f (replicate n a)) j d) (λ j. d)
  all_same a d n e = fun_ext (map_all a d e n)
