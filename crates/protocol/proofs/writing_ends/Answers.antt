use Rattle.protocol.proofs.writing_ends.Goals as goal
use Rattle.protocol.proofs.Writings.{writing_ends_lem}

pub returns : goal.returns
returns c = writing_ends_lem
