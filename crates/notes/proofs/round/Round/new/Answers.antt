use Rattle.register.specs.Note.{none}
use Rattle.notes.specs.Views.{note_of}
use Rattle.notes.proofs.Places.{all_same}
use Rattle.notes.proofs.round.Round.new.Goals as goal

pub returns-clause-replies : goal.returns-clause-replies
returns-clause-replies c = λ k. record { heard = c.new.ensures k; told = all_same note_of c.none.result none 63 c.none.ensures k }
