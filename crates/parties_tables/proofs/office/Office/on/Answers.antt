use Rattle.protocol_tables.specs.Runs.{OfficeHears}
use Rattle.protocol_tables.proofs.Runs.{office_runs}
use Rattle.parties_tables.proofs.Along.{along}
use Rattle.parties_tables.proofs.office.Office.on.Goals as goal

pub returns-clause-runs : goal.returns-clause-runs
returns-clause-runs c = along (OfficeHears _ _ _ _ _ _) c.receive.ensures.did (office_runs _ _ c.args.self.now.quorum.few _ _ _ _)
