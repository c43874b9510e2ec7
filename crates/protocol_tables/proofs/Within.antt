-- Lists of which each element is in another list.
-- Assumes nothing.
use Rattle.std.proofs.Common.{List, ◌++◌, ⊎_elim}
use mathlib.Core.List.Memᴰ
use mathlib.Core.List.{Memᴰ}

-- all of these are among those
abbrev pub Within : {A : Type 0} → List A → List A → Type 0
Within {A} xs ys = (x : A) → Memᴰ x xs → Memᴰ x ys

pub within_more : {A : Type 0} (ps : List A) {a b : List A} → Within a b → Within (ps ++ a) (ps ++ b)
within_more ps {a} {b} h p m = ⊎_elim (Memᴰ.append_left b) (λ m. Memᴰ.append_right ps (h p m)) (Memᴰ.append_cases ps m)
