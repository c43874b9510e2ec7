use Rattle.protocol.specs.Runs.{OfficeHears}
use Rattle.protocol.proofs.Runs.{office_hears}
use Rattle.parties.proofs.Along.{along}
use Rattle.parties.proofs.desk.Desk.on.Goals as goal

pub returns-clause-runs : goal.returns-clause-runs
returns-clause-runs c = along (OfficeHears _ _ _ _ _) c.receive.ensures (office_hears _ _ c.args.quorum.now.few _ _ _)
