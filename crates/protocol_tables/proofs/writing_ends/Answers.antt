use Rattle.protocol_tables.proofs.writing_ends.Goals as goal
use Rattle.protocol_tables.proofs.Lifts.{writing_ends_lem}

pub returns : goal.returns
returns c = writing_ends_lem
