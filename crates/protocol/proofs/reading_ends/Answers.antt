use Rattle.protocol.proofs.reading_ends.Goals as goal
use Rattle.protocol.proofs.Readings.{reading_ends_lem}

pub returns : goal.returns
returns c = reading_ends_lem
