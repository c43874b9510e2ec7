-- A function that is changed at one place.
-- Assumes nothing.
use Rattle.std.proofs.Common.{◌≡◌, ℕ, Bool, true, eqb, sym, refl, ⊎_elim, arith}
use mathlib.Core.Path.{fun_ext}
use Rattle.std.proofs.lemmas.Bool.{cond_both, cases_eq, eqb-true, eqb-false, eq-eqb, ne_eqb}
use Rattle.register.specs.Count.{put}

-- what holds of the new entry if j is its place, and of the old entry j if it is not, holds of the entry j after
pub put_at : {A : Type 0} (P : A → Type 0) (j i : ℕ) (a : A) (g : ℕ → A) → (j ≡ i → P a) → ((j ≡ i → ⊥) → P (g j)) → P (put i a g j)
put_at P j i a g here there = cond_both (eqb j i) a (g j) P (λ e. here (eqb-true j i e)) (λ e. there (eqb-false j i e))

-- what holds of each entry, and of the new one at its place, holds of each entry after
pub put_all : {A : Type 0} (P : ℕ → A → Type 0) (i : ℕ) (a : A) (g : ℕ → A) → P i a → ((j : ℕ) → P j (g j)) → (j : ℕ) → P j (put i a g j)
put_all P i a g here there j = put_at (P j) j i a g (λ e. rw e here) (λ _. there j)

-- the same of two functions that are changed at one place, where the old entries at that place need not do
pub put_apart : {A B : Type 0} (P : ℕ → A → B → Type 0) (i : ℕ) (a : A) (b : B) (g : ℕ → A) (h : ℕ → B) → P i a b → ((j : ℕ) → (j ≡ i → ⊥) → P j (g j) (h j)) → (j : ℕ) → P j (put i a g j) (put i b h j)
put_apart P i a b g h here there j = ⊎_elim (λ (e : j ≡ i). rw (e, eq-eqb i i refl) here) (λ apart. rw (ne_eqb j i apart) (there j apart)) (cases_eq j i)

-- and where they do
pub put_both : {A B : Type 0} (P : ℕ → A → B → Type 0) (i : ℕ) (a : A) (b : B) (g : ℕ → A) (h : ℕ → B) → P i a b → ((j : ℕ) → P j (g j) (h j)) → (j : ℕ) → P j (put i a g j) (put i b h j)
put_both P i a b g h here there = put_apart P i a b g h here (λ j _. there j)

-- what is put at a place stands there
pub put_same : {A : Type 0} (i : ℕ) (a : A) (g : ℕ → A) → put i a g i ≡ a
put_same i a g = rw (eq-eqb i i refl)

-- what is put last at a place stays
pub put_twice : {A : Type 0} (i : ℕ) (a b : A) (g : ℕ → A) → put i a (put i b g) ≡ put i a g
put_twice i a b g = fun_ext (λ j. grind arith)

-- what is put at two places can be put in either order
pub put_swapped : {A : Type 0} (i k : ℕ) (a b : A) (g : ℕ → A) → (i ≡ k → ⊥) → put i a (put k b g) ≡ put k b (put i a g)
put_swapped i k a b g apart = fun_ext (λ j. grind arith)

-- what stands at a place can be put there
pub put_idle : {A : Type 0} (i : ℕ) (a : A) (g : ℕ → A) → g i ≡ a → put i a g ≡ g
put_idle i a g is = fun_ext (put_all (λ j b. b ≡ g j) i a g (sym is) (λ _. refl))

pub put_own : {A : Type 0} (i : ℕ) (g : ℕ → A) → put i (g i) g ≡ g
put_own i g = put_idle i (g i) g refl

-- the same in a table: what stands there at k, in the row i, can be put there
pub put_cell : {A : Type 0} (i k : ℕ) (g : ℕ → ℕ → A) → put i (put k (g i k) (g i)) g ≡ g
put_cell i k g = put_idle i (put k (g i k) (g i)) g (sym (put_own k (g i)))

-- what is made of each entry, after one of them is changed
pub put_map : {A B : Type 0} (f : A → B) (i : ℕ) (a : A) (g : ℕ → A) → put i (f a) (λ j. f (g j)) ≡ (λ j. f (put i a g j))
put_map {A} {B} f i a g = fun_ext (put_both (λ _ (b : B) (c : A). b ≡ f c) i (f a) a (λ j. f (g j)) g refl (λ _. refl))

-- who is known stays known when one more is
pub put_stay : (i : ℕ) (known : ℕ → Bool) (j : ℕ) → known j ≡ true → put i true known j ≡ true
put_stay i known j e = grind arith
