use Rattle.protocol_files.proofs.all_come_up.Goals as goal
use Rattle.protocol_files.proofs.Wakes.{comes_up}

pub returns : goal.returns
returns c = comes_up
