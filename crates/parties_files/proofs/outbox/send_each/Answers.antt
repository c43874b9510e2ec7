use Rattle.std.proofs.Common.{List, [], ◌∷◌, ◌++◌, sym, refl, ap, ◌∙◌, append_assoc, append-nil, arith}
use Rattle.std.proofs.lemmas.Result.{err_from_is_err_and}
use Rattle.parties.specs.Views.{message_of}
use Rattle.storage.specs.Changes.{Parcel}
use Rattle.parties_files.specs.Commits.{each}
use Rattle.parties_files.proofs.Each.{each_none, each_more, each_front}
use Rattle.parties_files.proofs.outbox.send_each.Goals as goal

pub loop-to-init : goal.loop-to-init
loop-to-init g c =
    let before = g.S.Storage.sent c.args.store.now in
    (λ d h. h, refl, sym (append-nil before) ∙ ap (λ (s : List Parcel). before ++ s) (sym (each_none c.args.note.0 (message_of c.args.message))))

pub returns-in_err-send-clause-sent : goal.returns-in_err-send-clause-sent
returns-in_err-send-clause-sent g c =
    let (_, _, sent) = c.loop-to.invariant in
    let failed = err_from_is_err_and c.from_residual.result c.from_residual.ensures.1 in
    rw failed.1 (c.loop-to.to, c.in_err-send.ensures.sent ∙ sent ∙ ap (λ (s : List Parcel). g.S.Storage.sent c.args.store.now ++ s) (sym (each_front c.args.note.0 (message_of c.args.message) c.args.wardens c.loop-to.to (omega arith))))

pub loop-to-preserved : goal.loop-to-preserved
loop-to-preserved g c =
    let before = g.S.Storage.sent c.args.store.now in
    let (stays, state, sent) = c.loop-to.invariant in
    let done = c.in_ok-send.ensures in
    let i = c.loop-to.to in
    let k = c.args.note.0 in
    let m = message_of c.args.message in (
      λ d h. done.disk d (stays d h),
      done.state ∙ state,
      done.sent ∙ ap (λ (s : List Parcel). s ++ (record { to = i; note = k; message = m } ∷ [])) sent ∙ append_assoc before (each i k m) (record { to = i; note = k; message = m } ∷ []) ∙ ap (λ (s : List Parcel). before ++ s) (sym (each_more k m i)),
    )
