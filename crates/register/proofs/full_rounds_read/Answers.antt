use Rattle.register.proofs.full_rounds_read.Goals as goal
use Rattle.register.proofs.Stands.{reads}

pub returns : goal.returns
returns c = reads
