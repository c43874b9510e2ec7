-- A warden with many notes.
-- Assumes nothing.
use Rattle.std.specs.Prelude.{ℕ, Bool, true, false, cond}
use Rattle.register.specs.Note.{Note}
use Rattle.protocol.specs.Message.{Message}
use Rattle.protocol.specs.Step.{Outcome, Done, Refused, Step, refuse}
use Rattle.protocol.specs.Warden.{WardenDone, taken, answered, warden_on}
use Rattle.protocol_tables.specs.Keep.{Keep, room, store}

-- a note was taken
abbrev pub takes : Outcome WardenDone → Bool
takes (Done taken) = true
takes (Done answered) = false
takes (Refused m) = false

-- the step that the rules for one note ask for, in the table: what is taken is stored; a note that is not had is turned away with 6 if there is no room
abbrev pub keep_note : Keep Note → (k : ℕ) → Step Note WardenDone → Step (Keep Note) WardenDone
keep_note d k o =
    cond (takes o.outcome)
    (cond (room k d) (record { next = store k o.next d; sends = o.sends; outcome = o.outcome }) (refuse d 6))
    (record { next = d; sends = o.sends; outcome = o.outcome })

-- what it does with a message about the note k
abbrev pub warden_keeps : Keep Note → (from k : ℕ) → Message → Step (Keep Note) WardenDone
warden_keeps d from k m = keep_note d k (warden_on (d.at k) from m)
