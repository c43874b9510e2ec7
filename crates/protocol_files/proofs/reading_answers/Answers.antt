use Rattle.protocol_files.proofs.reading_answers.Goals as goal
use Rattle.protocol_files.proofs.Readings.{reading_answers_lem}

pub returns : goal.returns
returns c = reading_answers_lem
