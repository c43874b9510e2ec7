use Rattle.std.proofs.Common.{◌≡◌, None}
use Rattle.register.specs.Rule.{pick, Nothing}
use Rattle.notes.specs.Views.{replies_of}
use Rattle.notes.proofs.round.Round.first_read.Given as goal

abbrev pub invariant-told : goal.invariant-told
invariant-told l = record {
  none : l.first ≡ None;
  before : pick l.quorum.wardens l.quorum.faults (replies_of l.self) l.index ≡ Nothing;
}
