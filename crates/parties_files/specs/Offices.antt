-- The office with its disk, as the rules have it.
-- Assumes nothing.
use Rattle.std.specs.Prelude.{◌≡◌, ℕ, Bool, true, false, List, [], ◌∷◌, ◌++◌, map, take, MatchBool}
use Rattle.protocol.specs.Message.{office, packets}
use Rattle.parties_tables.specs.Offices as tables
use Rattle.protocol_tables.specs.Office as rules
use Rattle.frames.specs.Format.{Frame}
use Rattle.frames.specs.Journal.{encode_all, Splits}
use Rattle.frames.specs.declared.role.Role.TheVariants as roles
use Rattle.protocol_files.specs.Disk.{Disk, contents, append}
use Rattle.protocol_files.specs.Records.{office_records, office_replays, office_of}
use Rattle.protocol_files.specs.Nodes.{Node, recorded}
use Rattle.storage.specs.Changes.{Parcel}
use Rattle.parties_files.specs.Commits.{parcel}
use Rattle.journal.specs.Openings.{Found, opened_disk}
use Rattle.journal.specs.declared.opening.Opening.{Opening}
use Rattle.parties_files.specs.declared.office.Office.{Office}

-- what it has of each note
abbrev pub desks_of : Office → rules.Office
desks_of w = tables.office_of w.desks

-- its disk is d
abbrev pub node_of : Office → Disk → Node rules.Office
node_of w d = record { disk = d; up = w.up; memory = desks_of w }

-- letters go out one after the other, each to all wardens in their order
abbrev pub parcels : (n : ℕ) → List rules.Letter → List Parcel
parcels n [] = []
parcels n (l ∷ ls) = map parcel (packets n office l.note l.sends) ++ parcels n ls

-- it has become v by a record
pub record Replays (w : Office) (f : Frame) (v : Office) : Type 0 where
  pub desks : desks_of v ≡ office_replays (desks_of w) f
  pub quorum : v.desks.quorum ≡ w.desks.quorum

-- P, Q: of the disk before and after a call; w, v: the office
-- it has gone on by a step about the note k, whose records are on its file, synced
pub record Recorded (P Q : Disk → Type 0) (w v : Office) (k : ℕ) (step : rules.OfficeStep) : Type 0 where
  pub up : w.up ≡ true
  pub quorum : v.desks.quorum ≡ w.desks.quorum
  pub node : (d : Disk) → P d → (e : Disk) × Q e × (node_of v e ≡ recorded k step (node_of w d))

-- it could not write them: of their bytes some first part stands on the file, and not surely, and it is down
pub record Stopped (P Q : Disk → Type 0) (w v : Office) (k : ℕ) (step : rules.OfficeStep) : Type 0 where
  pub up : w.up ≡ true
  pub down : v.up ≡ false
  pub disk : (d : Disk) → P d → (j : ℕ) × Q (append (take j (encode_all (office_records k step))) d)

-- nothing came of it, and nothing has changed
pub record Same (P Q : Disk → Type 0) (w v : Office) : Type 0 where
  pub quorum : v.desks.quorum ≡ w.desks.quorum
  pub node : (d : Disk) → P d → Q d × (node_of v d ≡ node_of w d)

-- what may have come of a call that failed: nothing; the office is down; or all is recorded, and not all was sent
pub data Failed (P Q : Disk → Type 0) (w v : Office) (k : ℕ) (step : rules.OfficeStep) : Type 0 where
  same : Same P Q w v → Failed P Q w v k step
  stopped : Stopped P Q w v k step → Failed P Q w v k step
  unsent : Recorded P Q w v k step → Failed P Q w v k step

-- it has opened its file, whose records it has replayed
pub record Started (P Q : Disk → Type 0) (w v : Office) (trusted : Bool) (o : Opening) : Type 0 where
  pub up : v.up ≡ true
  pub quorum : v.desks.quorum ≡ w.desks.quorum
  pub frames : List Frame
  pub desks : desks_of v ≡ office_of frames
  pub found : (d : Disk) → P d → MatchBool trusted (Found roles.Office (contents d.file) frames o) ((rest : List ℕ) × Splits roles.Office d.file.synced frames rest)
  pub left : (d : Disk) → P d → Q (opened_disk frames)
