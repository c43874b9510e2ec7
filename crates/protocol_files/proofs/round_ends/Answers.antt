use Rattle.protocol_files.proofs.round_ends.Goals as goal
use Rattle.protocol_files.proofs.Rounds.{round_ends_lem}

pub returns : goal.returns
returns c = round_ends_lem
