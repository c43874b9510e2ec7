-- The worked cases.
-- Assumes nothing.
use Rattle.std.proofs.Common.{◌≡◌, ℕ, List, [], ◌++◌, sym, refl, ap, ◌∙◌, append-nil, lit<, lit≤}
use mathlib.Core.List.Memᴰ
use lib.Seq.{take-nil}
use Rattle.protocol.proofs.Cases.{worked}
use Rattle.protocol_tables.specs.Office.{office_ticks}
use Rattle.frames.specs.Format.{Frame}
use Rattle.frames.specs.Journal.{encode_all, Records, Splits}
use Rattle.frames.specs.declared.role.Role.TheVariants as roles
use Rattle.frames.proofs.Files.{once, none_in_nothing}
use Rattle.protocol_files.specs.Disk.{File, Disk, contents, keep, Cut, left, cut, reverted}
use Rattle.protocol_files.specs.Records.{office_of}
use Rattle.protocol_files.specs.System.{Found}
use Rattle.protocol_files.specs.Cases.{case_f, Worked}

-- nothing was pending, so nothing is lost
kept : (file : File) (bs : List ℕ) (d : Disk) → file ≡ record { synced = bs; pending = [] } → Cut (record { file = file; beside = file; former = [] }) d → contents d.file ≡ bs
kept file bs d is (left k b) = ap (λ (g : File). contents (keep k g)) is ∙ ap (λ (p : List ℕ). bs ++ p) (take-nil k) ∙ append-nil bs
kept file bs d is (cut k b) = ap (λ (g : File). contents (keep k g)) is ∙ ap (λ (p : List ℕ). bs ++ p) (take-nil k) ∙ append-nil bs
kept file bs d is (reverted g m k b) = absurd (Memᴰ.not-nil m)

-- so all records are found, and no others
all_found : (fs : List Frame) → Records roles.Office fs → (file : File) (d : Disk) (ss ps : List Frame) (rest : List ℕ) → file ≡ record { synced = encode_all fs; pending = [] } → Cut (record { file = file; beside = file; former = [] }) d → Found roles.Office d.file ss ps rest → ss ++ ps ≡ fs
all_found fs records file d ss ps rest is fall found =
    let whole : Splits roles.Office (contents d.file) fs [] = record { whole = kept file (encode_all fs) d is fall ∙ sym (append-nil (encode_all fs)); records = records; ends = none_in_nothing roles.Office } in
    (once roles.Office (contents d.file) (ss ++ ps) fs rest [] found.splits whole).0

records : Records roles.Office case_f.records
records = (((lit< tt, (lit< tt, lit≤ tt)), refl), (((lit< tt, lit< tt), refl), (((lit< tt, (lit< tt, lit≤ tt)), refl), (((lit< tt, lit< tt), refl), (((lit< tt, (lit< tt, lit≤ tt)), refl), tt)))))

pub cases_work_lem : Worked
cases_work_lem = (worked, (λ file d ss ps rest is fall found. ap (λ (fs : List Frame). (office_ticks (office_of fs)).letters) (all_found case_f.records records file d ss ps rest is fall found), tt))
