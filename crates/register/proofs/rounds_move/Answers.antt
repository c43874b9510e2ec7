use Rattle.register.proofs.rounds_move.Goals as goal
use Rattle.register.proofs.Moves.{moving}

pub returns : goal.returns
returns c = moving
