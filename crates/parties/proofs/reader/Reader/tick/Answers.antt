use Rattle.protocol.specs.Runs.{ReaderActs}
use Rattle.protocol.proofs.Runs.{reader_ticks}
use Rattle.parties.proofs.Along.{along}
use Rattle.parties.proofs.reader.Reader.tick.Goals as goal

pub returns-clause-runs : goal.returns-clause-runs
returns-clause-runs c = along (ReaderActs _ _ _) c.ask_on.ensures.did (reader_ticks _ _ c.args.self.now.quorum.few _)
