use Rattle.protocol.proofs.good_logs_mean.Goals as goal
use Rattle.protocol.proofs.Laws.{good_logs}

pub returns : goal.returns
returns c = good_logs
