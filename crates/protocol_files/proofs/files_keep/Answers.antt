use Rattle.protocol_files.proofs.files_keep.Goals as goal
use Rattle.protocol_files.proofs.Durable.{durable}

pub returns : goal.returns
returns c = durable
