use Rattle.protocol_tables.proofs.readers_run.Goals as goal
use Rattle.protocol_tables.proofs.Runs.{readers_run_lem}

pub returns : goal.returns
returns c = readers_run_lem
