use Rattle.protocol.specs.Runs.{OfficeActs}
use Rattle.protocol.proofs.Runs.{office_writes}
use Rattle.parties.proofs.Along.{along}
use Rattle.parties.proofs.desk.Desk.write.Goals as goal

pub returns-clause-runs : goal.returns-clause-runs
returns-clause-runs c = λ n f least. along (OfficeActs n f _) c.begin.ensures (office_writes n f least _ _)
