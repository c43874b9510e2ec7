use Rattle.parties_files.proofs.OfficePromises.{hears}
use Rattle.parties_files.proofs.office.Office.on.Goals as goal

pub returns-clause-runs : goal.returns-clause-runs
returns-clause-runs g c = hears _ _ c.args.self.now.desks.quorum.few (g.S.Storage.holds c.args.store.now) (g.S.Storage.holds c.receive.new.store) c.args.self.now c.receive.new.self _ _ _ c.receive.result c.receive.ensures.did
