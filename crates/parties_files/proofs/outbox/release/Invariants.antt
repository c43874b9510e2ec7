use Rattle.std.proofs.Common.{◌≡◌, ◌++◌, map, take}
use Rattle.storage.specs.Changes.{Stays}
use Rattle.storage.specs.Memories.{parcel_of}
use Rattle.parties_files.proofs.outbox.release.Given as goal

abbrev pub invariant-loop-what : goal.invariant-loop-what
invariant-loop-what g l =
    Stays g.S.Storage.holds l.initial.store l.store
    × (g.S.Storage.state l.store ≡ g.S.Storage.state l.initial.store)
    × (g.S.Storage.sent l.store ≡ g.S.Storage.sent l.initial.store ++ map parcel_of (take l.what-index l.outbox))
