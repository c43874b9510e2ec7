use Rattle.std.proofs.Common.{◌≡◌, ◌++◌, map, take}
use Rattle.parties_tables.specs.Offices.{letter_of}
use Rattle.rehearsal.specs.Ways.{packets_of}
use Rattle.rehearsal.specs.Scenes.{wardens_of, posted}
use Rattle.rehearsal.proofs.stage.Stage.post.Given as goal

abbrev pub invariant-loop-letter : goal.invariant-loop-letter
invariant-loop-letter l =
    (l.self.cast ≡ l.initial.self.cast) × (l.self.seed ≡ l.initial.self.seed)
    × (packets_of l.self.way ≡ packets_of l.initial.self.way ++ posted (wardens_of l.initial.self) (map letter_of (take l.letter-index l.letters)))
