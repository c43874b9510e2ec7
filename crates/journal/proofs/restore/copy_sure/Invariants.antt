use Rattle.std.proofs.Common.{◌≡◌, ◌-◌, ◌≤◌, [], length, take}
use Rattle.protocol_files.specs.Disk.{Disk, contents, with_beside}
use Rattle.journal.proofs.restore.copy_sure.Given as goal

abbrev pub invariant-loop-place : goal.invariant-loop-place
invariant-loop-place g l =
    ((d : Disk) → g.S.Storage.holds l.initial.store (with_beside (record { synced = []; pending = [] }) d) → (l.sure ≡ length d.file.synced) → (l.place ≤ l.sure) × g.S.Storage.holds l.store (with_beside (record { synced = []; pending = take l.place (contents d.file) }) d))
    × (g.S.Storage.state l.store ≡ g.S.Storage.state l.initial.store)
    × (g.S.Storage.sent l.store ≡ g.S.Storage.sent l.initial.store)

abbrev pub decreases-loop-place : goal.decreases-loop-place
decreases-loop-place g l = l.sure - l.place
