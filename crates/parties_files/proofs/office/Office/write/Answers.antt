use Rattle.std.proofs.Common.{arith, length-take, rules}
use Rattle.notes.specs.Views.{bytes_of}
use Rattle.parties_files.proofs.OfficePromises.{writes}
use Rattle.parties_files.proofs.office.Office.write.Goals as goal

pub returns-clause-runs : goal.returns-clause-runs
returns-clause-runs g c =
    writes _ _ c.args.self.now.desks.quorum.few (g.S.Storage.holds c.args.store.now) (g.S.Storage.holds c.begin.new.store) c.args.self.now c.begin.new.self c.args.number.0 (bytes_of c.args.value) (search rules, omega (arith, length-take c.args.value.length c.args.value.bytes, c.args.value.fits)) c.begin.result c.begin.ensures.did
