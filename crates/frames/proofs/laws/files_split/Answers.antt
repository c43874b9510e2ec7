use Rattle.frames.proofs.Files.{laws}
use Rattle.frames.proofs.laws.files_split.Goals as goal

pub returns : goal.returns
returns c = laws
