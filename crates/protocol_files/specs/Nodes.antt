-- A party with its disk.
-- Assumes nothing.
use Rattle.std.specs.Prelude.{ℕ, Bool, true, false, List, [], ◌++◌, take}
use Rattle.register.specs.Note.{Note, none}
use Rattle.protocol.specs.Message.{Packet, packets}
use Rattle.protocol.specs.Step.{Step}
use Rattle.protocol.specs.Warden.{WardenDone}
use Rattle.protocol_tables.specs.Keep.{Keep, empty}
use Rattle.protocol_tables.specs.Office.{Office, OfficeStep, empty_office}
use Rattle.frames.specs.Format.{Frame}
use Rattle.frames.specs.Journal.{encode_all}
use Rattle.protocol_files.specs.Disk.{Disk, empty_disk, blank, append, sync}
use Rattle.protocol_files.specs.Records.{warden_records, office_records}

-- up: it is at work, and memory is what it has; while it is down nothing comes to it
pub record Node (S : Type 0) : Type 0 where
  pub disk : Disk
  pub up : Bool
  pub memory : S

-- notes: what it has, some of it perhaps on its file but not surely; outbox: what it answers once all of that lasts
pub record Warden : Type 0 where
  pub notes : Keep Note
  pub outbox : List Packet

-- nothing has come to it yet: it is to open a file that is empty
abbrev pub new_warden : Node Warden
new_warden = record { disk = empty_disk; up = false; memory = record { notes = empty none; outbox = [] } }

abbrev pub new_office : Node Office
new_office = record { disk = empty_disk; up = false; memory = empty_office }

-- ANY PARTY
abbrev pub with_disk : {S : Type 0} → Disk → Node S → Node S
with_disk d c = record { disk = d; up = c.up; memory = c.memory }

-- it is down, and has this disk; what it had in memory is nothing any more
abbrev pub fallen : {S : Type 0} → Disk → S → Node S
fallen d m = record { disk = d; up = false; memory = m }

-- it has opened its file, which has these records, cut back and synced, and nothing else; its folder is synced
abbrev pub opened : {S : Type 0} → List Frame → S → Node S
opened fs m = record { disk = record { file = record { synced = encode_all fs; pending = [] }; beside = blank; former = [] }; up = true; memory = m }

-- A WARDEN: it goes on by a step about the note k, writes what it takes, and answers nothing yet
abbrev pub stepped : (n i k : ℕ) → Step (Keep Note) WardenDone → Node Warden → Node Warden
stepped n i k o c =
    record {
      disk = append (encode_all (warden_records k o)) c.disk;
      up = c.up;
      memory = record { notes = o.next; outbox = c.memory.outbox ++ packets n i k o.sends };
    }

-- all that it wrote is synced, and so it answers
abbrev pub flushed : Node Warden → Node Warden
flushed c = record { disk = sync c.disk; up = c.up; memory = record { notes = c.memory.notes; outbox = [] } }

abbrev pub opened_warden : List Frame → Keep Note → Node Warden
opened_warden fs d = opened fs (record { notes = d; outbox = [] })

-- THE OFFICE: it writes what a step leaves on its file, syncs it, and only then goes on
abbrev pub recorded : (k : ℕ) → OfficeStep → Node Office → Node Office
recorded k o c = record { disk = sync (append (encode_all (office_records k o)) c.disk); up = c.up; memory = o.next }

-- it could not: of what it wrote the first j bytes stand on the file, and not surely; it is down, and has answered nothing
abbrev pub stopped : (k : ℕ) → OfficeStep → (j : ℕ) → Office → Node Office → Node Office
stopped k o j m c = fallen (append (take j (encode_all (office_records k o))) c.disk) m
