use Rattle.protocol.proofs.reading_answers.Goals as goal
use Rattle.protocol.proofs.Readings.{reading_answers_lem}

pub returns : goal.returns
returns c = reading_answers_lem
