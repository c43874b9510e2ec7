use Rattle.std.proofs.Common.{◌≡◌, ℕ, ◌+◌, List, vec_items, refl, ◌∙◌, subst, arith}
use Rattle.journal.specs.Replays.{ScannedAll, Loading}
use Rattle.journal.proofs.Loads.{begin, onward, ended}
use Rattle.journal.proofs.load.load.Goals as goal

pub loop-party-init : goal.loop-party-init
loop-party-init g c = (begin g.P.Replay.replays c.args.role (g.S.Storage.holds c.args.store.now) c.args.party.now, λ d h. h, refl, refl)

pub returns-then-size-eq0-clause-loads : goal.returns-then-size-eq0-clause-loads
returns-then-size-eq0-clause-loads g c =
    let read = c.in_ok-read.ensures in
    let (loading, stays, _, _) = c.loop-party.invariant in
    let window = vec_items c.read.new.into in
    let scanned : ScannedAll g.P.Replay.replays c.args.role window 0 c.loop-party.party c.replay_front.new.party =
    subst (λ (w : List ℕ). ScannedAll g.P.Replay.replays c.args.role w 0 c.loop-party.party c.replay_front.new.party) c.deref.ensures.value
    (subst (λ (n : ℕ). ScannedAll g.P.Replay.replays c.args.role c.deref.result.now n c.loop-party.party c.replay_front.new.party) c.if-size-eq0.true c.in_ok-size.ensures) in
    ended g.P.Replay.replays c.args.role (g.S.Storage.holds c.args.store.now) c.loop-party.place c.args.party.now c.loop-party.party c.replay_front.new.party window loading (λ d h. read.bytes d (stays d h)) scanned

pub loop-party-preserved : goal.loop-party-preserved
loop-party-preserved g c =
    let read = c.in_ok-read.ensures in
    let (loading, stays, state, sent) = c.loop-party.invariant in
    let window = vec_items c.read.new.into in
    let scanned : ScannedAll g.P.Replay.replays c.args.role window c.in_ok-size.size c.loop-party.party c.replay_front.new.party =
    subst (λ (w : List ℕ). ScannedAll g.P.Replay.replays c.args.role w c.in_ok-size.size c.loop-party.party c.replay_front.new.party) c.deref.ensures.value c.in_ok-size.ensures in
    let next : c.loop-party.place + c.in_ok-size.size ≡ c.in_ok-place.place = grind arith in (
      subst (λ (n : ℕ). Loading g.P.Replay.replays c.args.role (g.S.Storage.holds c.args.store.now) n c.args.party.now c.replay_front.new.party) next
          (onward g.P.Replay.replays c.args.role (g.S.Storage.holds c.args.store.now) c.loop-party.place c.in_ok-size.size c.args.party.now c.loop-party.party c.replay_front.new.party window loading (λ d h. read.bytes d (stays d h)) scanned.scanned),
      λ d h. read.disk d (stays d h),
      read.state ∙ state,
      read.sent ∙ sent,
    )
