use Rattle.std.proofs.Common.{arith}
use Rattle.notes.proofs.Words.{word_put}
use Rattle.notes.proofs.warden_set.WardenSet.with.Goals as goal

pub returns : goal.returns
returns c = word_put _ _ (omega arith)
