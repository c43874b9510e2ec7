-- Words of the contracts of a storage: what becomes of its disk.
-- Assumes nothing.
use Rattle.std.specs.Prelude.{◌≡◌, ℕ, ◌⊎◌}
use Rattle.protocol.specs.Message.{Message}
use Rattle.protocol_files.specs.Disk.{File, Disk, keep, with_beside}

-- what is sent: to whom, about which note, and what
pub record Parcel : Type 0 where
  pub to : ℕ
  pub note : ℕ
  pub message : Message

-- holds a d: the disk of a is d, if what is trusted of it is so. Whatever it was before, it is g of that now
abbrev pub Becomes : {A : Type 0} → (A → Disk → Type 0) → (before after : A) → (Disk → Disk) → Type 0
Becomes holds a b g = (d : Disk) → holds a d → holds b (g d)

-- whatever it was before, it is one of those now that R allows
abbrev pub BecomesSome : {A : Type 0} → (A → Disk → Type 0) → (before after : A) → (Disk → Disk → Type 0) → Type 0
BecomesSome holds a b R = (d : Disk) → holds a d → (e : Disk) × holds b e × R d e

abbrev pub Stays : {A : Type 0} → (A → Disk → Type 0) → (before after : A) → Type 0
Stays holds a b = Becomes holds a b (λ d. d)

-- WHAT A FAILED CALL MAY LEAVE
-- some first part of what was pending
abbrev pub Shortened : Disk → Disk → Type 0
Shortened d e = (k : ℕ) × (e ≡ record { file = keep k d.file; beside = d.beside; former = d.former })

-- anything beside
abbrev pub Scribbled : Disk → Disk → Type 0
Scribbled d e = (g : File) × (e ≡ with_beside g d)

-- it was done, or nothing was
abbrev pub Perhaps : (Disk → Disk) → Disk → Disk → Type 0
Perhaps g d e = (e ≡ d) ⊎ (e ≡ g d)
