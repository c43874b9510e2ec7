use Rattle.protocol_files.proofs.files_refine.Goals as goal
use Rattle.protocol_files.proofs.Refines.{refines}

pub returns : goal.returns
returns c = refines
