use Rattle.parties_files.proofs.OfficePromises.{starts}
use Rattle.parties_files.proofs.office.Office.start.Goals as goal

pub returns-clause-runs : goal.returns-clause-runs
returns-clause-runs g c =
    starts _ _ c.args.self.now.desks.quorum.few (g.S.Storage.holds c.args.store.now) (g.S.Storage.holds c.replay_file.new.store) c.args.self.now c.replay_file.new.self (g.S.Storage.state c.args.store.now).trusted c.replay_file.result c.replay_file.ensures.started
