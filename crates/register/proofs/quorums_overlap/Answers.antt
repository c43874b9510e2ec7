use Rattle.register.proofs.quorums_overlap.Goals as goal
use Rattle.register.proofs.Counting.{overlap}

pub returns : goal.returns
returns c = overlap
