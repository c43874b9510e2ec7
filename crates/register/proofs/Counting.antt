-- Laws of `count`, and the counting lemma.
-- Assumes nothing.
use Rattle.std.proofs.Common.{◌≡◌, ℕ, zero, suc, ◌+◌, ◌<◌, ◌≤◌, Bool, true, false, cond, not, ◌&&◌, ◌||◌, ◌⊎◌, refl, ⊎_elim, add-one, arith}
use Rattle.std.proofs.lemmas.Bool.{cases_Bool}
use Rattle.register.specs.Count.{count}
use Rattle.register.specs.Promise.{Overlap}

-- a loop's start and its step
pub count_none : (p : ℕ → Bool) → count 0 p ≡ 0
unfolding count
count_none p = refl

pub count_more : (p : ℕ → Bool) (i : ℕ) → count (i + 1) p ≡ cond (p i) 1 0 + count i p
unfolding count
count_more p i = rw add-one

-- who passes p passes q
pub within : (n : ℕ) (p q : ℕ → Bool) → ((i : ℕ) → i < n → p i ≡ true → q i ≡ true) → count n p ≤ count n q
unfolding count
within zero p q h = omega arith
within (suc n) p q h =
    let ih : count n p ≤ count n q = within n p q (λ i l. h i (omega arith)) in
    let here = h n (omega arith) in
    grind arith

-- who passes p passes p or q
pub either : (n : ℕ) (p q : ℕ → Bool) → count n p ≤ count n (λ i. p i || q i)
either n p q = within n p (λ i. p i || q i) (λ i _ e. rw e)

-- who passes p and q passes r or s
pub meet : (n : ℕ) (p q r s : ℕ → Bool) → ((i : ℕ) → i < n → p i ≡ true → q i ≡ true → (r i ≡ true) ⊎ (s i ≡ true)) → count n p + count n q ≤ n + (count n r + count n s)
unfolding count
meet zero p q r s h = omega arith
meet (suc n) p q r s h =
    let ih : count n p + count n q ≤ n + (count n r + count n s) = meet n p q r s (λ i l. h i (omega arith)) in
    let here = h n (omega arith) in
    grind arith

pub everybody : (n : ℕ) (p : ℕ → Bool) → ((i : ℕ) → i < n → p i ≡ true) → n ≤ count n p
unfolding count
everybody zero p h = omega arith
everybody (suc n) p h =
    let ih : n ≤ count n p = everybody n p (λ i l. h i (omega arith)) in
    let here = h n (omega arith) in
    grind arith

pub nobody : (n : ℕ) → count n (λ i. false) ≡ 0
unfolding count
nobody zero = refl
nobody (suc n) = omega (arith, nobody n)

-- everybody passes p, q or r
pub cover : (n : ℕ) (p q r : ℕ → Bool) → ((i : ℕ) → i < n → (p i || q i || r i) ≡ true) → n ≤ count n p + (count n q + count n r)
unfolding count
cover zero p q r h = omega arith
cover (suc n) p q r h =
    let ih : n ≤ count n p + (count n q + count n r) = cover n p q r (λ i l. h i (omega arith)) in
    let here = h n (omega arith) in
    grind arith

-- who passes p passes q, and somebody passes q alone
pub fewer : (n : ℕ) (p q : ℕ → Bool) → ((i : ℕ) → i < n → p i ≡ true → q i ≡ true) → (k : ℕ) → k < n → p k ≡ false → q k ≡ true → count n p < count n q
unfolding count
fewer zero p q h k l no_p yes_q = omega arith
fewer (suc n) p q h k l no_p yes_q =
    let rest : count n p ≤ count n q = within n p q (λ i l. h i (omega arith)) in
    let down : k < n → count n p < count n q = λ l. fewer n p q (λ i l. h i (omega arith)) k l no_p yes_q in
    let here = h n (omega arith) in
    grind arith

-- more pass p than q: somebody passes p alone
pub beyond : (n : ℕ) (p q : ℕ → Bool) → count n q < count n p → (i : ℕ) × (i < n) × (p i ≡ true) × (q i ≡ false)
unfolding count
beyond zero p q h = absurd (omega arith)
beyond (suc n) p q h =
    ⊎_elim
    (λ (e : (p n && not (q n)) ≡ true). (n, omega arith, grind arith, grind arith))
    (λ (e : (p n && not (q n)) ≡ false). let (i, l, yes_p, no_q) = beyond n p q (grind arith) in (i, omega arith, yes_p, no_q))
    (cases_Bool (p n && not (q n)))

pub overlap : Overlap
overlap n h b f heard holds faulty test many most few each = omega (arith, meet n heard holds faulty test each)
