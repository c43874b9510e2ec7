-- The worked cases, computed.
-- Assumes nothing.
use Rattle.std.proofs.Common.{refl}
use Rattle.register.specs.Count.{count}
use Rattle.register.specs.Rule.{pick}
use Rattle.protocol.specs.Cases.{Worked}

pub worked : Worked
unfolding count pick
worked = (refl, (refl, (refl, (refl, (refl, tt)))))
