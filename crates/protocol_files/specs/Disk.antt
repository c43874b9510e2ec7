-- A file on a disk. What was written and not synced may be lost, from its end, when the power fails.
-- Assumes nothing.
use Rattle.std.specs.Prelude.{ℕ, ◌-◌, List, [], ◌∷◌, ◌++◌, length, take}
use mathlib.Core.List.{Memᴰ}

-- synced: what lasts; pending: what was written after it
pub record File : Type 0 where
  pub synced : List ℕ
  pub pending : List ℕ

abbrev pub blank : File
blank = record { synced = []; pending = [] }

-- what a process finds in it
abbrev pub contents : File → List ℕ
contents g = g.synced ++ g.pending

-- the first k bytes of what is pending, and not the rest
abbrev pub keep : (k : ℕ) → File → File
keep k g = record { synced = g.synced; pending = take k g.pending }

-- file: the one in use; beside: one that is being written to take its place; former: those that the present one took the place of,
-- the last first, each of which a power cut may bring back as long as the folder is not synced
pub record Disk : Type 0 where
  pub file : File
  pub beside : File
  pub former : List File

abbrev pub empty_disk : Disk
empty_disk = record { file = blank; beside = blank; former = [] }

-- WHAT IS DONE TO IT
abbrev pub append : List ℕ → Disk → Disk
append bs d = record { file = record { synced = d.file.synced; pending = d.file.pending ++ bs }; beside = d.beside; former = d.former }

abbrev pub sync : Disk → Disk
sync d = record { file = record { synced = contents d.file; pending = [] }; beside = d.beside; former = d.former }

-- all but the first n bytes are cut off
abbrev pub cut_back : (n : ℕ) → Disk → Disk
cut_back n d = record { file = record { synced = take n d.file.synced; pending = take (n - length d.file.synced) d.file.pending }; beside = d.beside; former = d.former }

abbrev pub with_beside : File → Disk → Disk
with_beside g d = record { file = d.file; beside = g; former = d.former }

abbrev pub write_beside : List ℕ → Disk → Disk
write_beside bs d = with_beside (record { synced = d.beside.synced; pending = d.beside.pending ++ bs }) d

abbrev pub sync_beside : Disk → Disk
sync_beside d = with_beside (record { synced = contents d.beside; pending = [] }) d

-- the file beside takes the place of the file: in one step, and surely once the folder is synced
abbrev pub rename : Disk → Disk
rename d = record { file = d.beside; beside = blank; former = d.file ∷ d.former }

abbrev pub sync_folder : Disk → Disk
sync_folder d = record { file = d.file; beside = d.beside; former = [] }

-- WHAT A FALL LEAVES: a killed process leaves all as it is, still pending, and a failed call some first part of it; a power cut leaves any first part
-- of what was pending, in the file or, if the folder was not synced, in one that it took the place of. What stood beside is any.
pub data Cut (d : Disk) : Disk → Type 0 where
  left : (k : ℕ) (beside : File) → Cut d (record { file = keep k d.file; beside = beside; former = d.former })
  cut : (k : ℕ) (beside : File) → Cut d (record { file = keep k d.file; beside = beside; former = [] })
  reverted : (g : File) → Memᴰ g d.former → (k : ℕ) (beside : File) → Cut d (record { file = keep k g; beside = beside; former = [] })
