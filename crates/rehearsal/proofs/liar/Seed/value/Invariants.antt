use Rattle.std.proofs.Common.{◌≡◌, take}
use Rattle.rehearsal.specs.Seeds.{after, bytes_by}
use Rattle.rehearsal.proofs.liar.Seed.value.Given as goal

abbrev pub invariant-loop-byte : goal.invariant-loop-byte
invariant-loop-byte l =
    (l.self.state ≡ after l.byte-index l.initial.self.state)
    × (take l.byte-index l.byte-items ≡ bytes_by l.byte-index l.initial.self.state)
