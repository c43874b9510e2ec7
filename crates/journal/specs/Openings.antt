-- Opening a file.
-- Assumes nothing.
use Rattle.std.specs.Prelude.{◌≡◌, ℕ, Bool, ◌⊎◌, List, [], length, MatchBool}
use Rattle.frames.specs.Format.{Frame}
use Rattle.frames.specs.Journal.{encode_all, Records, StrictFront, Splits}
use Rattle.frames.specs.declared.role.Role.{Role}
use Rattle.protocol_files.specs.Disk.{Disk, blank, contents, with_beside, rename, Cut}
use Rattle.storage.specs.Changes.{Scribbled}
use Rattle.journal.specs.Replays.{Replayed}
use Rattle.journal.specs.declared.opening.Opening.{Opening}

-- what is synced are whole records
abbrev pub Sound : Role → Disk → Type 0
Sound role d = (ss : List Frame) × (d.file.synced ≡ encode_all ss) × Records role ss

-- the file has these records, synced, and nothing else; so has the folder
abbrev pub opened_disk : List Frame → Disk
opened_disk fs = record { file = record { synced = encode_all fs; pending = [] }; beside = blank; former = [] }

-- the file bs is the records fs, and then a rest of which was told how long it is, and whether it is more than a record that was cut off
pub record Found (role : Role) (bs : List ℕ) (fs : List Frame) (o : Opening) : Type 0 where
  pub rest : List ℕ
  pub splits : Splits role bs fs rest
  pub cut : o.cut ≡ length rest
  pub damaged : MatchBool o.damaged (StrictFront role rest → ⊥) (StrictFront role rest)

-- by the records on the file x has become y; they are left on it. P: of the disk before; Q: after
pub record Opened {X : Type 0} (R : X → Frame → X → Type 0) (role : Role) (P Q : Disk → Type 0) (x y : X) (o : Opening) : Type 0 where
  pub frames : List Frame
  pub replayed : Replayed R x frames y
  pub found : (d : Disk) → P d → Found role (contents d.file) frames o
  pub left : (d : Disk) → P d → Q (opened_disk frames)

-- what may be left if something fails: what was synced, if that was whole records, and some first part of the rest
abbrev pub Unopened : (role : Role) (P Q : Disk → Type 0) → Type 0
Unopened role P Q = (d : Disk) → P d → Sound role d → (e : Disk) × Q e × Cut d e

-- WRITING ANEW what is sure
abbrev pub with_copy : Disk → Disk
with_copy d = with_beside (record { synced = d.file.synced; pending = [] }) d

-- the same, and it has taken the place of the file
abbrev pub renewed : Disk → Disk
renewed d = rename (with_copy d)

-- by the records that were synced x has become y; they are left on the file
pub record Restored {X : Type 0} (R : X → Frame → X → Type 0) (role : Role) (P Q : Disk → Type 0) (x y : X) : Type 0 where
  pub frames : List Frame
  pub replayed : Replayed R x frames y
  pub found : (d : Disk) → P d → (rest : List ℕ) × Splits role d.file.synced frames rest
  pub left : (d : Disk) → P d → Q (opened_disk frames)

-- what may be left if something fails: the file as it was, or what is left of one with all that was synced
abbrev pub Unrestored : (role : Role) (P Q : Disk → Type 0) → Type 0
Unrestored role P Q = (d : Disk) → P d → Sound role d → (e : Disk) × Q e × (Scribbled d e ⊎ Cut (renewed d) e)

-- EITHER: a file that is trusted is opened; of another what is sure is written anew
pub record Started {X : Type 0} (R : X → Frame → X → Type 0) (role : Role) (P Q : Disk → Type 0) (x y : X) (trusted : Bool) (o : Opening) : Type 0 where
  pub frames : List Frame
  pub replayed : Replayed R x frames y
  pub found : (d : Disk) → P d → MatchBool trusted (Found role (contents d.file) frames o) ((rest : List ℕ) × Splits role d.file.synced frames rest)
  pub left : (d : Disk) → P d → Q (opened_disk frames)

abbrev pub Unstarted : (role : Role) (P Q : Disk → Type 0) → Type 0
Unstarted role P Q = (d : Disk) → P d → Sound role d → (e : Disk) × Q e × ((Scribbled d e ⊎ Cut (renewed d) e) ⊎ Cut d e)
