use Rattle.register.proofs.rounds_stand.Goals as goal
use Rattle.register.proofs.Stands.{stand}

pub returns : goal.returns
returns c = stand
