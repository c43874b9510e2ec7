use Rattle.protocol.specs.Runs.{WardenHears}
use Rattle.protocol.proofs.Runs.{warden_hears}
use Rattle.parties.proofs.Along.{along}
use Rattle.parties.proofs.slot.Slot.on.Goals as goal

pub returns-clause-runs : goal.returns-clause-runs
returns-clause-runs c = λ n f least. along (WardenHears n f _ _ _) c.receive.ensures (warden_hears n f least _ _ _)
