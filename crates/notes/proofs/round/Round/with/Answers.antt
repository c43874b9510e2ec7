use Rattle.std.proofs.Common.{arith}
use Rattle.register.specs.Note.{none}
use Rattle.notes.specs.Views.{note_of}
use Rattle.notes.proofs.Places.{set_put}
use Rattle.notes.proofs.round.Round.with.Goals as goal

pub returns-clause-replies : goal.returns-clause-replies
returns-clause-replies c = λ k. record { heard = c.with.ensures k; told = set_put note_of c.args.self.told c.args.warden.index c.args.note none (omega arith) k }
