use Rattle.protocol.proofs.readings_exist.Goals as goal
use Rattle.protocol.proofs.Samples.{sample}

pub returns : goal.returns
returns c = sample
