-- Lists without a number.
-- Assumes nothing.
use Rattle.std.proofs.Common.{◌≡◌, ℕ, Bool, true, false, cond, not, eqb, List, [], ◌∷◌, map, refl, ap, ◌∙◌}
use Rattle.std.specs.List.{filter}
use Rattle.protocol_tables.specs.Office.{without}

-- a list of what has another number
module _ {A : Type 0} (f : A → ℕ) (k : ℕ) where
  kept : (b : Bool) (x : A) (xs : List A) → map f (cond (not b) (x ∷ xs) xs) ≡ cond b (map f xs) (f x ∷ map f xs)
  kept true x xs = refl
  kept false x xs = refl

  pub without_kept : (xs : List A) → map f (filter (λ x. not (eqb k (f x))) xs) ≡ without k (map f xs)
  without_kept [] = refl
  without_kept (x ∷ xs) = kept (eqb k (f x)) x (filter (λ x. not (eqb k (f x))) xs) ∙ ap (λ ys. cond (eqb k (f x)) ys (f x ∷ ys)) (without_kept xs)
