use Rattle.protocol_tables.proofs.tables_refine.Goals as goal
use Rattle.protocol_tables.proofs.Refines.{refines}

pub returns : goal.returns
returns c = refines
