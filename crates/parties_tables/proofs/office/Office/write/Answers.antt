use Rattle.protocol_tables.specs.Runs.{OfficeWrites}
use Rattle.protocol_tables.proofs.Runs.{writing_runs}
use Rattle.parties_tables.proofs.Along.{along, if_ok}
use Rattle.parties_tables.proofs.office.Office.write.Goals as goal

pub returns-clause-runs : goal.returns-clause-runs
returns-clause-runs c = if_ok _ c.begin_writing.result (λ _ did. along (OfficeWrites _ _ _ _) did (writing_runs _ _ c.args.self.now.quorum.few _ _ _)) c.begin_writing.ensures.did
