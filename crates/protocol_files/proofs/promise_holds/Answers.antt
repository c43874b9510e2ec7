use Rattle.protocol_files.proofs.promise_holds.Goals as goal
use Rattle.protocol_files.proofs.Refines.{holds}

pub returns : goal.returns
returns c = holds
