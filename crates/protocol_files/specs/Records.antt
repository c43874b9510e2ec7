-- What the records on a file mean: the same as the messages and writings that they were made by.
-- Assumes nothing.
use Rattle.std.specs.Prelude.{ℕ, suc, cond, List, [], ◌∷◌, ◌++◌, ◌==◌}
use Rattle.register.specs.Note.{Note, none}
use Rattle.protocol.specs.Message.{office, Take, Took, Ask, Told}
use Rattle.protocol.specs.Step.{Step}
use Rattle.protocol.specs.Warden.{WardenDone}
use Rattle.protocol.specs.Log as events
use Rattle.protocol_tables.specs.Keep.{Keep, empty}
use Rattle.protocol_tables.specs.Warden.{takes, warden_keeps}
use Rattle.protocol_tables.specs.Office.{Office, OfficeStep, empty_office, begins, ends, office_writes, close_writing}
use Rattle.frames.specs.Format.{Frame, Sent, Begun, Ended}

-- A WARDEN'S FILE
-- what a step about the note k leaves on it: what was taken, as the message that it came in
abbrev pub warden_records : (k : ℕ) → Step (Keep Note) WardenDone → List Frame
warden_records k o = cond (takes o.outcome) (Sent k (Take (o.next.at k)) ∷ []) []

-- a warden takes a record as it takes a message from the office
abbrev pub warden_replays : Keep Note → Frame → Keep Note
warden_replays d (Sent k m) = (warden_keeps d office k m).next
warden_replays d (Begun k x) = d
warden_replays d (Ended k e) = d

abbrev pub warden_replays_all : Keep Note → List Frame → Keep Note
warden_replays_all d [] = d
warden_replays_all d (f ∷ fs) = warden_replays_all (warden_replays d f) fs

-- what a warden has whose file has these records
abbrev pub warden_of : List Frame → Keep Note
warden_of fs = warden_replays_all (empty none) fs

-- THE OFFICE'S FILE
-- what a step about the note k leaves on it
abbrev pub office_records : (k : ℕ) → OfficeStep → List Frame
office_records k o =
    cond (begins o.outcome) (Begun k (o.next.desks.at k).now ∷ [])
    (cond (ends o.outcome) (Ended k (o.next.desks.at k).now.edition ∷ []) [])

-- an edition that began is written as it was the first time, if it is the next; one that ended is closed
abbrev pub office_replays : Office → Frame → Office
office_replays o (Sent k m) = o
office_replays o (Begun k x) = cond (x.edition == suc (o.desks.at k).now.edition) (office_writes o k x.value).next o
office_replays o (Ended k e) = close_writing o k e

abbrev pub office_replays_all : Office → List Frame → Office
office_replays_all o [] = o
office_replays_all o (f ∷ fs) = office_replays_all (office_replays o f) fs

-- what the office has whose file has these records: nobody is counted yet
abbrev pub office_of : List Frame → Office
office_of fs = office_replays_all empty_office fs

-- WHAT IS SEEN WHEN RECORDS LAST FROM NOW ON
abbrev pub took_by : (i : ℕ) → Frame → events.Log
took_by i (Sent k (Take x)) = events.Took i k x.edition ∷ []
took_by i (Sent k (Took e)) = []
took_by i (Sent k (Ask r)) = []
took_by i (Sent k (Told r x)) = []
took_by i (Begun k x) = []
took_by i (Ended k e) = []

abbrev pub took_all : (i : ℕ) → List Frame → events.Log → events.Log
took_all i [] l = l
took_all i (f ∷ fs) l = took_all i fs (took_by i f ++ l)

abbrev pub began_by : Frame → events.Log
began_by (Sent k m) = []
began_by (Begun k x) = events.Began k x.edition x.value ∷ []
began_by (Ended k e) = []

abbrev pub began_all : List Frame → events.Log → events.Log
began_all [] l = l
began_all (f ∷ fs) l = began_all fs (began_by f ++ l)
