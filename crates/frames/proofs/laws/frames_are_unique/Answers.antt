use Rattle.frames.proofs.Frames.{unique}
use Rattle.frames.proofs.laws.frames_are_unique.Goals as goal

pub returns : goal.returns
returns c = unique
