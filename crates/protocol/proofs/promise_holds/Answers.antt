use Rattle.protocol.proofs.promise_holds.Goals as goal
use Rattle.protocol.proofs.Follows.{holds}

pub returns : goal.returns
returns c = holds
