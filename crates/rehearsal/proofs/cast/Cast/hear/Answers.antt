use Rattle.std.proofs.Common.{◌≡◌, vec_items, arith}
use Rattle.parties.specs.Views.{message_of, sends_of, warden_outcome}
use Rattle.parties_tables.specs.Wardens.{notes_of}
use Rattle.rehearsal.proofs.Outcomes.{if_ok}
use Rattle.rehearsal.proofs.Heard.{heard_by}
use Rattle.rehearsal.proofs.cast.Cast.hear.Goals as goal

pub returns-clause-did : goal.returns-clause-did
returns-clause-did c =
    let ws = c.args.self.now.wardens in
    let v = c.index_mut.result.now in
    let w = c.on.new.self in
    if_ok (λ _. notes_of w ≡ notes_of v) c.on.result (λ step did. heard_by (vec_items ws) c.args.warden.index c.args.incoming.from.0 c.args.incoming.note.0 (message_of c.args.incoming.message) v w (sends_of step.sends) (warden_outcome step.outcome) (omega (arith, c.requires, ws.ok.0)) c.index_mut.ensures.value did) c.on.ensures.did
