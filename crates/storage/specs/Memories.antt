-- A disk in memory, as the rules have it.
-- Assumes nothing.
use Rattle.std.specs.Prelude.{◌≡◌, true, ◌⊎◌, List, [], map, vec_items}
use mathlib.Core.List.{Memᴰ}
use Rattle.parties.specs.Views.{message_of}
use Rattle.protocol_files.specs.Disk.{File, Disk}
use Rattle.storage.specs.Changes.{Parcel}
use Rattle.storage.specs.declared.condition.Condition.{Condition}
use Rattle.storage.specs.declared.image.Image.{Image}
use Rattle.storage.specs.declared.memory.Memory.{Memory}
use Rattle.storage.specs.declared.outgoing.Outgoing.{Outgoing}

abbrev pub file_of : Image → File
file_of g = record { synced = vec_items g.synced; pending = vec_items g.pending }

abbrev pub disk_of : Memory → Disk
disk_of m = record { file = file_of m.file; beside = file_of m.beside; former = map file_of (vec_items m.former) }

-- the disk x is d, and what is known of it is so
pub record Known (c : Condition) (x d : Disk) : Type 0 where
  pub disk : x ≡ d
  pub synced : c.synced ≡ true → d.file.pending ≡ []
  pub placed : c.placed ≡ true → d.former ≡ []

abbrev pub Holds : Memory → Disk → Type 0
Holds m d = Known m.condition (disk_of m) d

abbrev pub parcel_of : Outgoing → Parcel
parcel_of x = record { to = x.to.0; note = x.note.0; message = message_of x.message }

abbrev pub sent_by : Memory → List Parcel
sent_by m = map parcel_of (vec_items m.outlet)

-- the file that e has is that of d, or one that it took the place of
abbrev pub Reverts : Disk → Disk → Type 0
Reverts d e = (e.beside ≡ d.beside) × ((e.file ≡ d.file) ⊎ Memᴰ e.file d.former)
