-- As many numbers have something as there are numbers, and each number has what stands beside it.
-- Assumes nothing.
use Rattle.std.proofs.Common.{◌≡◌, ℕ, zero, suc, ◌+◌, ◌<◌, Bool, true, false, eqb, List, [], ◌∷◌, length, get_or, is_some, Some, None, Option, refl, ap, ◌∙◌, ⊎_elim, arith, rules, Less}
use mathlib.Core.Path.{fun_ext}
use Rattle.std.proofs.lemmas.Bool.{eq-eqb, ne_eqb, cases_eq}
use Rattle.std.specs.Map.{lookup, keys_of}
use Rattle.std.specs.List.{AllByRecursion}
use Rattle.std.specs.List.Sorted.{IsStrictlySortedBy}
use Rattle.std.specs.Ordering.{nat_cmp}
use Rattle.notes.specs.declared.ids.NoteId.{NoteId}
use Rattle.register.specs.Count.{count, put}
use Rattle.register.proofs.Counting.{nobody}

-- tests that agree below n are passed as often
agree : (n : ℕ) (p q : ℕ → Bool) → ((i : ℕ) → i < n → p i ≡ q i) → count n p ≡ count n q
unfolding count
agree zero p q h = refl
agree (suc n) p q h =
    let rest : count n p ≡ count n q = agree n p q (λ i l. h i (omega arith)) in
    let here = h n (omega arith) in
    grind arith

-- one number more passes
one_more : (n k : ℕ) (p : ℕ → Bool) → k < n → p k ≡ false → count n (put k true p) ≡ count n p + 1
unfolding count
one_more zero k p l new = absurd (omega arith)
one_more (suc n) k p l new =
    ⊎_elim
    (λ (e : n ≡ k).
    let rest : count n (put k true p) ≡ count n p = agree n (put k true p) p (λ i below. rw (ne_eqb i k (λ is. omega arith)) refl) in
    let here : p n ≡ false = ap p e ∙ new in
    rw (eq-eqb n k e, here) (omega arith))
    (λ (ne : n ≡ k → ⊥).
    let rest : count n (put k true p) ≡ count n p + 1 = one_more n k p (omega arith) new in
    rw (ne_eqb n k ne) (omega arith))
    (cases_eq n k)

less : (a b : ℕ) → nat_cmp a b ≡ Less → a < b
less a b e = Prim.search rules

-- numbers in rising order
abbrev below : NoteId → List NoteId → Type 0
below k ns = AllByRecursion (λ n. nat_cmp k.0 n.0 ≡ Less) ns

abbrev Rising : {T : Type 0} → List (NoteId × T) → Type 0
Rising es = IsStrictlySortedBy (λ m n. nat_cmp m.0 n.0) (keys_of es)

module _ {T : Type 0} where
  -- a number lower than all is lower than the one at a place
  lower : (k : NoteId) (es : List (NoteId × T)) (i : ℕ) (d : NoteId × T) → below k (keys_of es) → i < length es → k.0 < (get_or es i d).0.0
  lower k [] i d h l = absurd (omega arith)
  lower k (e ∷ es) zero d h l = less k.0 e.0.0 h.0
  lower k (e ∷ es) (suc i) d h l = lower k es i d h.1 (omega arith)

  abbrev found : List (NoteId × T) → ℕ → Option T
  found es k = lookup (λ n. eqb k n.0) es

  -- a number lower than all is not had
  absent : (k : NoteId) (es : List (NoteId × T)) → below k (keys_of es) → found es k.0 ≡ None
  absent k [] h = refl
  absent k (e ∷ es) h = rw (ne_eqb k.0 e.0.0 (λ same. omega (arith, less k.0 e.0.0 h.0)), absent k es h.1) refl

  pub counted : (es : List (NoteId × T)) (n : ℕ) → Rising es → ((i : ℕ) (d : NoteId × T) → i < length es → (get_or es i d).0.0 < n) → count n (λ k. is_some (found es k)) ≡ length es
  unfolding IsStrictlySortedBy
  counted [] n rising low = nobody n
  counted (e ∷ es) n rising low =
      let rest : count n (λ k. is_some (found es k)) ≡ length es = counted es n rising.1 (λ i d l. low (suc i) d (omega arith)) in
      let new = absent e.0 es rising.0 in
      ap (count n) (fun_ext (λ k. grind arith))
      ∙ one_more n e.0.0 (λ k. is_some (found es k)) (low 0 e (omega arith)) (ap is_some new)
      ∙ omega arith

  -- what stands at a place is had under the number there
  pub placed : (es : List (NoteId × T)) (i : ℕ) (d : NoteId × T) → Rising es → i < length es → found es (get_or es i d).0.0 ≡ Some (get_or es i d).1
  unfolding IsStrictlySortedBy
  placed [] i d rising l = absurd (omega arith)
  placed (e ∷ es) zero d rising l = rw (eq-eqb e.0.0 e.0.0 refl) refl
  placed (e ∷ es) (suc i) d rising l =
      let within : i < length es = omega arith in
      let there = lower e.0 es i d rising.0 within in
      rw (ne_eqb (get_or es i d).0.0 e.0.0 (λ same. omega (arith, there))) (placed es i d rising.1 within)
