-- A warden's table, as the rules have it.
-- Assumes nothing.
use Rattle.register.specs.Note as rules
use Rattle.notes.specs.Views.{note_of}
use Rattle.protocol_tables.specs.Keep.{Keep}
use Rattle.parties_tables.specs.Keeps.{keep_of}
use Rattle.parties_tables.specs.declared.warden.Warden.{Warden}

abbrev pub notes_of : Warden → Keep rules.Note
notes_of w = keep_of note_of rules.none w.notes
