use Rattle.parties_files.proofs.WardenPromises.{starts}
use Rattle.parties_files.proofs.warden.Warden.start.Goals as goal

pub returns-clause-runs : goal.returns-clause-runs
returns-clause-runs g c =
    starts (g.S.Storage.holds c.args.store.now) (g.S.Storage.holds c.replay_file.new.store) c.args.self.now c.replay_file.new.self (g.S.Storage.state c.args.store.now).trusted c.replay_file.result c.replay_file.ensures.started
