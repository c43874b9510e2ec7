-- A reader, as the rules have it.
-- Assumes nothing.
use Rattle.notes.specs.Views.{replies_of}
use Rattle.protocol.specs.Reader as rules
use Rattle.parties.specs.declared.reader.Reader.{Reader}

abbrev pub reader_of : Reader → rules.Reader
reader_of q = record { busy = q.busy; note = q.note.0; left = q.left; round = q.round.number.0; next = q.next.0; replies = replies_of q.round }
