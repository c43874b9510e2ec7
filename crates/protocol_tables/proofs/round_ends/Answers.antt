use Rattle.protocol_tables.proofs.round_ends.Goals as goal
use Rattle.protocol_tables.proofs.Lifts.{round_ends_lem}

pub returns : goal.returns
returns c = round_ends_lem
