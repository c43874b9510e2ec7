use Rattle.protocol_files.proofs.Cases.{cases_work_lem}
use Rattle.protocol_files.proofs.cases_work.Goals as goal

pub returns : goal.returns
returns c = cases_work_lem
