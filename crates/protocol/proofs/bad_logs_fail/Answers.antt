use Rattle.protocol.proofs.bad_logs_fail.Goals as goal
use Rattle.protocol.proofs.Samples.{bad_logs}

pub returns : goal.returns
returns c = bad_logs
