use Rattle.std.proofs.Common.{length}
use Rattle.journal.proofs.Scans.{Passed}
use Rattle.journal.proofs.load.replay_front.Given as goal

abbrev pub invariant-loop-front : goal.invariant-loop-front
invariant-loop-front g l = Passed g.P.Replay.replays l.role l.bytes l.rest l.initial.party l.party

abbrev pub decreases-loop-front : goal.decreases-loop-front
decreases-loop-front g l = length l.rest
