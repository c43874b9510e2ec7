-- What stands at a place of a list, seen through a function.
-- Assumes nothing.
use Rattle.std.proofs.Common.{◌≡◌, ℕ, zero, suc, ◌+◌, ◌<◌, List, [], ◌∷◌, ◌++◌, map, length, get_or, set, replicate, sym, refl, ap, ◌∙◌, ⊎_elim, add-one}
use mathlib.Core.Path.{fun_ext}
use lib.ListN.{length-map}
use Rattle.std.proofs.lemmas.List.{get_or-set_same, get_or-set_other, map-set, get_or-map, map-append}
use Rattle.std.proofs.lemmas.Bool.{cases_eq, eq-eqb, ne_eqb}
use Rattle.register.specs.Count.{put}

module _ {A B : Type 0} (f : A → B) where
  -- the list with one place changed
  map_put : (xs : List A) (i : ℕ) (x : A) (d : B) → i < length xs → (j : ℕ) → get_or (map f (set xs i x)) j d ≡ put i (f x) (λ j. get_or (map f xs) j d) j
  map_put xs i x d l j = rw (map-set f xs i x) (⊎_elim same other (cases_eq j i))
    where
      same : j ≡ i → get_or (set (map f xs) i (f x)) j d ≡ put i (f x) (λ j. get_or (map f xs) j d) j
      same e = let l : i < length (map f xs) = rw (length-map xs f) l in rw (e, eq-eqb i i refl, get_or-set_same)

      other : (j ≡ i → ⊥) → get_or (set (map f xs) i (f x)) j d ≡ put i (f x) (λ j. get_or (map f xs) j d) j
      other apart = rw (ne_eqb j i apart, get_or-set_other (map f xs) i j (f x) d apart)

  pub set_put : (xs : List A) (i : ℕ) (x : A) (d : B) → i < length xs → ◌≡◌ {A = ℕ → B} (λ j. get_or (map f (set xs i x)) j d) (put i (f x) (λ j. get_or (map f xs) j d))
  set_put xs i x d l = fun_ext (map_put xs i x d l)

  -- what is read
  pub read_place : (xs : List A) (i : ℕ) (x : A) (d : B) → i < length xs → x ≡ get_or xs i x → f x ≡ get_or (map f xs) i d
  read_place xs i x d l e = ap f e ∙ sym (get_or-map f xs i x d l)

  -- a list in which all are seen as b, and one more
  pub more_same : (xs : List A) (x : A) (b : B) (n : ℕ) → map f xs ≡ replicate n b → f x ≡ b → map f (xs ++ (x ∷ [])) ≡ replicate (n + 1) b
  more_same xs x b n e is = rw add-one (map-append f xs (x ∷ []) ∙ (ap (λ (ys : List B). ys ++ (f x ∷ [])) e ∙ (ap (λ (y : B). replicate n b ++ (y ∷ [])) is ∙ grow n)))
    where
      grow : (m : ℕ) → replicate m b ++ (b ∷ []) ≡ replicate (suc m) b
      grow zero = refl
      grow (suc m) = ap (λ (ys : List B). b ∷ ys) (grow m)

  pub as_many : (xs : List A) (b : B) (n : ℕ) → map f xs ≡ replicate n b → length xs ≡ n
  as_many xs b n e = sym (length-map xs f) ∙ (ap (λ (ys : List B). length ys) e ∙ long n)
    where
      long : (m : ℕ) → length (replicate m b) ≡ m
      long zero = refl
      long (suc m) = ap suc (long m)

  pub nobody : (xs : List A) (b : B) (n : ℕ) → map f xs ≡ replicate n b → ◌≡◌ {A = ℕ → B} (λ j. get_or (map f xs) j b) (λ j. b)
  nobody xs b n e = ap (λ (ys : List B). λ (j : ℕ). get_or ys j b) e ∙ fun_ext (same n)
    where
      same : (m j : ℕ) → get_or (replicate m b) j b ≡ b
      same zero j = refl
      same (suc m) zero = refl
      same (suc m) (suc j) = same m j
