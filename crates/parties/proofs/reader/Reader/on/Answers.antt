use Rattle.protocol.specs.Runs.{ReaderHears}
use Rattle.protocol.proofs.Runs.{reader_hears}
use Rattle.parties.proofs.Along.{along}
use Rattle.parties.proofs.reader.Reader.on.Goals as goal

pub returns-clause-runs : goal.returns-clause-runs
returns-clause-runs c = along (ReaderHears _ _ _ _ _ _) c.receive.ensures.did (reader_hears _ _ c.args.self.now.quorum.few _ _ _ _)
