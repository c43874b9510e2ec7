use Rattle.protocol.proofs.cases_work.Goals as goal
use Rattle.protocol.proofs.Cases.{worked}

pub returns : goal.returns
returns c = worked
