use Rattle.std.proofs.Common.{inr}
use Rattle.journal.proofs.Cuts.{scribbled_left}
use Rattle.parties_files.proofs.warden.Warden.receive.Goals as goal

pub returns-in_default-write-clause-did : goal.returns-in_default-write-clause-did
returns-in_default-write-clause-did g c = λ d h. (d, c.in_default-write.ensures.disk d h, inr (c.fall.ensures.up, scribbled_left d d.beside))
