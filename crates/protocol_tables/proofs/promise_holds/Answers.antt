use Rattle.protocol_tables.proofs.promise_holds.Goals as goal
use Rattle.protocol_tables.proofs.Refines.{holds}

pub returns : goal.returns
returns c = holds
