-- Bytes that are added to a vector.
-- Assumes nothing.
use Rattle.std.specs.Prelude.{◌≡◌, ℕ, ◌+◌, ◌≤◌, List, ◌++◌, length, vec_items, vec_len, vec_capacity, Vec, Result, is_ok, if◌then◌else◌}
use Rattle.std.specs.declared.alloc.Global.{Global}
use Rattle.std.specs.declared.alloc.AllocError.{AllocError}

-- the bytes were added, and no room was lost
pub record Added (old new : Vec ℕ Global) (bs : List ℕ) : Type 0 where
  pub items : vec_items new ≡ vec_items old ++ bs
  pub len : vec_len new ≡ vec_len old + length bs
  pub room : vec_capacity old ≤ vec_capacity new

-- the bytes were added, or there was no memory and nothing was
abbrev pub WholeOrNot : (old new : Vec ℕ Global) (bs : List ℕ) → Result (Unit {0}) AllocError → Type 0
WholeOrNot old new bs result = vec_items new ≡ (if is_ok result then vec_items old ++ bs else vec_items old)
