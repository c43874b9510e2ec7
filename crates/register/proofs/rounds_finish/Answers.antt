use Rattle.register.proofs.rounds_finish.Goals as goal
use Rattle.register.proofs.Moves.{finishes}

pub returns : goal.returns
returns c = finishes
