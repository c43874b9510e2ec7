use Rattle.std.proofs.Common.{◌≡◌, ◌-◌}
use Rattle.storage.specs.Changes.{Stays}
use Rattle.journal.specs.Replays.{Loading}
use Rattle.journal.proofs.load.load.Given as goal

abbrev pub invariant-loop-party : goal.invariant-loop-party
invariant-loop-party g l =
    Loading g.P.Replay.replays l.role (g.S.Storage.holds l.initial.store) l.place l.initial.party l.party
    × Stays g.S.Storage.holds l.initial.store l.store
    × (g.S.Storage.state l.store ≡ g.S.Storage.state l.initial.store)
    × (g.S.Storage.sent l.store ≡ g.S.Storage.sent l.initial.store)

abbrev pub decreases-loop-party : goal.decreases-loop-party
decreases-loop-party g l = 18446744073709551616 - l.place
