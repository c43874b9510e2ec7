use Rattle.std.proofs.Common.{arith}
use Rattle.protocol.specs.Reader.{new_reader}
use Rattle.parties.specs.Readers.{reader_of}
use Rattle.rehearsal.proofs.Places.{set_put}
use Rattle.rehearsal.proofs.readers.Readers.set.Goals as goal

pub returns-clause-readers : goal.returns-clause-readers
returns-clause-readers c =
    set_put reader_of c.args.self.now.each c.args.id.index c.args.reader (new_reader 1) (omega arith)
