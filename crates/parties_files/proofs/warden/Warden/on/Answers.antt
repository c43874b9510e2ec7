use Rattle.parties_files.proofs.WardenPromises.{hears}
use Rattle.parties_files.proofs.warden.Warden.on.Goals as goal

pub returns-clause-runs : goal.returns-clause-runs
returns-clause-runs g c = hears (g.S.Storage.holds c.args.store.now) (g.S.Storage.holds c.receive.new.store) c.args.self.now c.receive.new.self _ _ _ c.receive.result c.receive.ensures.did
