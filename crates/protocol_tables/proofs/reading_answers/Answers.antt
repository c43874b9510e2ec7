use Rattle.protocol_tables.proofs.reading_answers.Goals as goal
use Rattle.protocol_tables.proofs.Lifts.{reading_answers_lem}

pub returns : goal.returns
returns c = reading_answers_lem
