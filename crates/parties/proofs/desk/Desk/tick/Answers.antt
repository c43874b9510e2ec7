use Rattle.protocol.specs.Runs.{OfficeActs}
use Rattle.protocol.proofs.Runs.{office_ticks}
use Rattle.parties.proofs.Along.{along}
use Rattle.parties.proofs.desk.Desk.tick.Goals as goal

pub returns-clause-runs : goal.returns-clause-runs
returns-clause-runs c = λ n f least. along (OfficeActs n f _) c.resend.ensures (office_ticks n f least _)
