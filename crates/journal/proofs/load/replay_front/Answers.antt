use Rattle.frames.specs.Views.{frame_of}
use Rattle.journal.proofs.Scans.{begin, onward}
use Rattle.journal.proofs.load.replay_front.Goals as goal

pub loop-front-init : goal.loop-front-init
loop-front-init g c = begin g.P.Replay.replays c.args.role c.args.bytes.now c.args.party.now

pub loop-front-preserved : goal.loop-front-preserved
loop-front-preserved g c =
    let x = c.in-Some.front in
    let rest = c.loop-front.rest.now in
    let begins = c.in-Some.ensures in
    onward g.P.Replay.replays c.args.role c.args.bytes.now rest x.rest.now c.args.party.now c.loop-front.party c.replay.new.self c.loop-front.invariant (frame_of x.frame) begins.is_record begins.front c.in_ok-replay.ensures
