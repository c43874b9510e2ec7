-- Tables that are counted by the numbers of what they have.
-- Assumes nothing.
use Rattle.std.proofs.Common.{◌≡◌, ℕ, ◌<◌, true, false, eqb, List, [], ◌∷◌, length, refl, ⊎_elim, arith}
use Rattle.std.proofs.lemmas.Bool.{cases_Bool}
use Rattle.std.proofs.lemmas.Map.Keys.{IsDistinct-cons}
use Rattle.std.proofs.lemmas.Map.Made.{length-le_from_is_member}
use Rattle.std.specs.Cmp.{IsEquivalence}
use Rattle.std.specs.List.{AllByRecursion, IsDistinct}
use Rattle.std.specs.Set.{is_member}
use Rattle.protocol_tables.specs.Keep.{Keep, empty, store}

eqb_laws : IsEquivalence eqb
eqb_laws = record { refl = λ x. grind arith; symm = λ x y. grind arith; congr = λ x y z e. grind arith }

-- one that is not in a list differs from each that is
differs : (k : ℕ) (ks : List ℕ) → is_member eqb ks k ≡ false → AllByRecursion (λ y. eqb k y ≡ false) ks
differs k [] none = tt
differs k (x ∷ xs) none = (grind arith, differs k xs (grind arith))

-- the numbers that are had, each once
pub record Counted {A : Type 0} (d : Keep A) : Type 0 where
  pub numbers : List ℕ
  pub once : IsDistinct eqb numbers
  pub had : (k : ℕ) → d.had k ≡ is_member eqb numbers k
  pub many : d.many ≡ length numbers

pub empty_counted : {A : Type 0} (blank : A) → Counted (empty blank)
unfolding IsDistinct
empty_counted blank = record { numbers = []; once = tt; had = λ k. refl; many = refl }

module _ {A : Type 0} {d : Keep A} (h : Counted d) (k : ℕ) (a : A) where
  -- one that was had already, and one that was not
  again : d.had k ≡ true → Counted (store k a d)
  again was = record { numbers = h.numbers; once = h.once; had = λ j. let old = h.had j in grind arith; many = rw was h.many }

  anew : d.had k ≡ false → Counted (store k a d)
  anew was =
      record {
        numbers = k ∷ h.numbers;
        once = IsDistinct-cons eqb k h.numbers (differs k h.numbers (let is = h.had k in cc)) h.once;
        had = λ j. let old = h.had j in grind arith;
        many = rw was (omega (arith, h.many));
      }

  pub store_counted : Counted (store k a d)
  store_counted = ⊎_elim again anew (cases_Bool (d.had k))

-- who has what another has, and lacks something of it, has fewer
pub fewer : {A B : Type 0} {d : Keep A} {e : Keep B} → Counted d → Counted e → ((k : ℕ) → d.had k ≡ true → e.had k ≡ true) → (k : ℕ) → e.had k ≡ true → d.had k ≡ false → d.many < e.many
fewer {d = d} {e = e} p q all k has lacks = omega (arith, p.many, q.many, length-le_from_is_member eqb_laws (k ∷ p.numbers) q.numbers (IsDistinct-cons eqb k p.numbers (differs k p.numbers (let is = p.had k in cc)) p.once) in_both)
  where
    in_both : (j : ℕ) → is_member eqb (k ∷ p.numbers) j ≡ true → is_member eqb q.numbers j ≡ true
    in_both j e = let mine = p.had j in let theirs = q.had j in let up = all j in grind arith
