use Rattle.protocol.specs.Runs.{ReaderActs}
use Rattle.protocol.proofs.Runs.{reader_reads}
use Rattle.parties.proofs.Along.{along}
use Rattle.parties.proofs.reader.Reader.read.Goals as goal

pub returns-clause-runs : goal.returns-clause-runs
returns-clause-runs c = along (ReaderActs _ _ _) c.begin.ensures.did (reader_reads _ _ c.args.self.now.quorum.few _ _)
