use Rattle.parties.proofs.Along.{along}
use Rattle.protocol_tables.specs.Runs.{WardenHears}
use Rattle.protocol_tables.proofs.Runs.{warden_runs}
use Rattle.parties_tables.proofs.Along.{if_ok}
use Rattle.parties_tables.proofs.warden.Warden.on.Goals as goal

pub returns-clause-runs : goal.returns-clause-runs
returns-clause-runs c = if_ok _ c.receive.result (λ _ did n f least. along (WardenHears n f _ _ _ _) did (warden_runs n f least _ _ _ _)) c.receive.ensures
