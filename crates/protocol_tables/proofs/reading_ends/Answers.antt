use Rattle.protocol_tables.proofs.reading_ends.Goals as goal
use Rattle.protocol_tables.proofs.Lifts.{reading_ends_lem}

pub returns : goal.returns
returns c = reading_ends_lem
