-- Replaying the records of a file.
-- Assumes nothing.
use Rattle.std.specs.Prelude.{◌≡◌, ℕ, List, [], ◌∷◌, ◌++◌, length, take, drop}
use Rattle.frames.specs.Format.{Frame}
use Rattle.frames.specs.Journal.{encode_all, Records, NoRecord}
use Rattle.frames.specs.declared.role.Role.{Role}
use Rattle.protocol_files.specs.Disk.{Disk, contents}

-- R y f z: y becomes z by the record f. x becomes what it is by the records fs, one after the other
pub data Replayed {X : Type 0} (R : X → Frame → X → Type 0) (x : X) : List Frame → X → Type 0 where
  none : Replayed R x [] x
  more : {fs : List Frame} {y z : X} → Replayed R x fs y → (f : Frame) → R y f z → Replayed R x (fs ++ (f ∷ [])) z

-- the first n bytes of bs are records, by which x has become y
pub record Scanned {X : Type 0} (R : X → Frame → X → Type 0) (role : Role) (bs : List ℕ) (n : ℕ) (x y : X) : Type 0 where
  pub frames : List Frame
  pub replayed : Replayed R x frames y
  pub records : Records role frames
  pub size : n ≡ length (encode_all frames)
  pub front : bs ≡ encode_all frames ++ drop n bs

-- and they are all: no record follows
pub record ScannedAll {X : Type 0} (R : X → Frame → X → Type 0) (role : Role) (bs : List ℕ) (n : ℕ) (x y : X) : Type 0 where
  pub scanned : Scanned R role bs n x y
  pub ends : NoRecord role (drop n bs)

-- OF A WHOLE FILE, a window at a time: the first n bytes of the file are records, by which x has become y, whatever the disk is of which P holds
pub record Loading {X : Type 0} (R : X → Frame → X → Type 0) (role : Role) (P : Disk → Type 0) (n : ℕ) (x y : X) : Type 0 where
  pub frames : List Frame
  pub replayed : Replayed R x frames y
  pub records : Records role frames
  pub size : n ≡ length (encode_all frames)
  pub front : (d : Disk) → P d → contents d.file ≡ encode_all frames ++ drop n (contents d.file)

-- no record follows; and the window has what follows, or the first of it
pub record Loads {X : Type 0} (R : X → Frame → X → Type 0) (role : Role) (P : Disk → Type 0) (n : ℕ) (x y : X) (window : List ℕ) : Type 0 where
  pub loading : Loading R role P n x y
  pub ends : (d : Disk) → P d → NoRecord role (drop n (contents d.file))
  pub rest : (d : Disk) → P d → window ≡ take 65536 (drop n (contents d.file))
