use Rattle.std.proofs.Common.{◌≡◌, ◌++◌}
use Rattle.parties.specs.Views.{message_of}
use Rattle.storage.specs.Changes.{Stays}
use Rattle.parties_files.specs.Commits.{each}
use Rattle.parties_files.proofs.outbox.send_each.Given as goal

abbrev pub invariant-loop-to : goal.invariant-loop-to
invariant-loop-to g l =
    Stays g.S.Storage.holds l.initial.store l.store
    × (g.S.Storage.state l.store ≡ g.S.Storage.state l.initial.store)
    × (g.S.Storage.sent l.store ≡ g.S.Storage.sent l.initial.store ++ each l.to l.note.0 (message_of l.message))
