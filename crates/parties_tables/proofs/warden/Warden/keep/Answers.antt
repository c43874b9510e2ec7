use Rattle.register.specs.Note.{none}
use Rattle.notes.specs.Views.{note_of}
use Rattle.parties_tables.proofs.Tables.{stored}
use Rattle.parties_tables.proofs.warden.Warden.keep.Goals as goal

pub returns : goal.returns
returns c = stored note_of none _ _ c.args.self.now.notes c.put.new.self _ c.put.ensures
