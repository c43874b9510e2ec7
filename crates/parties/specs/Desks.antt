-- The office's desk, as the rules have it.
-- Assumes nothing.
use Rattle.notes.specs.Views.{note_of, members}
use Rattle.protocol.specs.Office as rules
use Rattle.parties.specs.declared.desk.Desk.{Desk}

abbrev pub desk_of : Desk → rules.Desk
desk_of d = record { now = note_of d.now; busy = d.busy; acks = members d.acks }
