use Rattle.protocol.proofs.missing_falls.Goals as goal
use Rattle.protocol.proofs.Measures.{measured}

pub returns : goal.returns
returns c = measured
