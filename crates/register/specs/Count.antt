-- How many of the wardens 0 .. n - 1 pass a test, and a function that is changed at one place.
-- Assumes nothing.
use Rattle.std.specs.Prelude.{ℕ, zero, suc, ◌+◌, Bool, cond, ◌==◌}

unfoldable pub count : ℕ → (ℕ → Bool) → ℕ
count zero p = 0
count (suc n) p = cond (p n) 1 0 + count n p

-- g, but for a at the place i
abbrev pub put : {A : Type 0} → ℕ → A → (ℕ → A) → ℕ → A
put i a g j = cond (j == i) a (g j)
