use Rattle.protocol.proofs.round_ends.Goals as goal
use Rattle.protocol.proofs.Rounds.{round_ends_lem}

pub returns : goal.returns
returns c = round_ends_lem
