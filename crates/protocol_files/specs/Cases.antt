-- The worked cases, as rows of one table: those of parties in memory, and those with a fall.
-- Assumes nothing.
use Rattle.std.specs.Prelude.{◌≡◌, ℕ, List, [], ◌∷◌, ◌++◌}
use Rattle.protocol.specs.Message.{Take, Each}
use Rattle.protocol.specs.Cases as memory
use Rattle.protocol_tables.specs.Office.{Letter, office_ticks}
use Rattle.frames.specs.Format.{Frame, Begun, Ended}
use Rattle.frames.specs.Journal.{encode_all}
use Rattle.frames.specs.declared.role.Role.TheVariants as roles
use Rattle.protocol_files.specs.Disk.{File, Disk, Cut}
use Rattle.protocol_files.specs.Records.{office_of}
use Rattle.protocol_files.specs.System.{Found}

-- a row: what is on the office's file, synced; and what it sends at a tick, wherever it fell and once it has opened its file again
pub record Row : Type 0 where
  pub records : List Frame
  pub sends : List Letter

abbrev pub Falls : List Row → Type 0
Falls [] = Unit {0}
Falls (r ∷ rs) =
    ((file : File) (d : Disk) (ss ps : List Frame) (rest : List ℕ) → file ≡ record { synced = encode_all r.records; pending = [] } → Cut (record { file = file; beside = file; former = [] }) d → Found roles.Office d.file ss ps rest →
    (office_ticks (office_of (ss ++ ps))).letters ≡ r.sends)
    × Falls rs

-- F: the office falls after it sent edition 3 to two wardens: it comes up and goes on with 3, the same value
abbrev pub case_f : Row
case_f =
    record {
      records = Begun 7 (record { edition = 1; value = 111 ∷ [] }) ∷ Ended 7 1 ∷ Begun 7 (record { edition = 2; value = 99 ∷ [] }) ∷ Ended 7 2 ∷ Begun 7 (record { edition = 3; value = 120 ∷ [] }) ∷ [];
      sends = record { note = 7; sends = Each (Take (record { edition = 3; value = 120 ∷ [] })) } ∷ [];
    }

-- THE TABLE
abbrev pub Worked : Type 0
Worked = memory.Worked × Falls (case_f ∷ [])
