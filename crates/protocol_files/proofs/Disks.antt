-- The files that a power cut may leave: the one in use, and those that it took the place of.
-- Assumes nothing.
use Rattle.std.proofs.Common.{◌≡◌, ℕ, List, [], ◌∷◌, refl, ⊎_elim}
use mathlib.Core.List.Memᴰ
use mathlib.Core.List.{Memᴰ}
use Rattle.protocol_files.specs.Disk.{File, keep, Disk, Cut, left, cut, reverted}

-- each of them is so
abbrev pub Each : (File → Type 0) → File → List File → Type 0
Each P g gs = (h : File) → Memᴰ h (g ∷ gs) → P h

pub one : (P : File → Type 0) {g : File} → P g → Each P g []
one P p h at = rw (Memᴰ.eq_of_singleton at) p

pub first : (P : File → Type 0) (g : File) (gs : List File) → Each P g gs → P g
first P g gs each = each g (Memᴰ.head refl)

pub each_cut : (P : File → Type 0) → ((k : ℕ) (g : File) → P g → P (keep k g)) → {d e : Disk} → Cut d e → Each P d.file d.former → Each P e.file e.former
each_cut P less {d} (left k beside) each = λ h at. ⊎_elim (λ (is : h ≡ keep k d.file). rw is (less k d.file (each d.file (Memᴰ.head refl)))) (λ at. each h (Memᴰ.tail at)) (Memᴰ.cases_cons at)
each_cut P less {d} (cut k beside) each = one P (less k d.file (each d.file (Memᴰ.head refl)))
each_cut P less {d} (reverted g at k beside) each = one P (less k g (each g (Memᴰ.tail at)))

pub each_more : (P : File → Type 0) (b g : File) (gs : List File) → P b → Each P g gs → Each P b (g ∷ gs)
each_more P b g gs p each h (Memᴰ.head is) = rw is p
each_more P b g gs p each h (Memᴰ.tail at) = each h at

pub each_same : (P Q : File → Type 0) (g : File) (gs : List File) → ((h : File) → P h → Q h) → Each P g gs → Each Q g gs
each_same P Q g gs q each h at = q h (each h at)
