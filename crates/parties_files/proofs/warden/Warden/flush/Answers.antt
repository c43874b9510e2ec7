use Rattle.parties_files.proofs.WardenPromises.{flushes}
use Rattle.parties_files.proofs.warden.Warden.flush.Goals as goal

pub returns-clause-runs : goal.returns-clause-runs
returns-clause-runs g c = flushes (g.S.Storage.holds c.args.store.now) (g.S.Storage.holds c.sync_and_answer.new.store) c.args.self.now c.sync_and_answer.new.self c.sync_and_answer.result c.sync_and_answer.ensures.flushed
