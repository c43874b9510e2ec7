use Rattle.notes.proofs.Turns.{rule_of}
use Rattle.notes.proofs.round.Round.read.Goals as goal

pub returns-clause-rule : goal.returns-clause-rule
returns-clause-rule c = rule_of _ _ _ _ c.note_read.ensures
