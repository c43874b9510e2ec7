use Rattle.std.proofs.Common.{ℕ, List, ◌++◌, ap, ◌∙◌, subst}
use Rattle.notes.specs.Views.{note_of}
use Rattle.frames.specs.Format.{Begun, encode}
use Rattle.protocol.specs.Office.{Desk}
use Rattle.parties_files.specs.Commits.{Commits}
use Rattle.parties_files.proofs.office.Office.record_begun.Goals as goal

pub returns-clause-disk : goal.returns-clause-disk
returns-clause-disk g c =
    let written = c.deref.ensures.value ∙ c.in_ok-put_begun.ensures.items ∙ ap (λ (old : List ℕ). old ++ encode (Begun c.args.number.0 (note_of c.desk.result.now))) c.clear.ensures.items ∙ ap (λ (d : Desk). encode (Begun c.args.number.0 d.now)) c.desk.ensures in
    subst (λ (bs : List ℕ). Commits g.S.Storage.holds c.args.store.now c.commit.new.store bs c.commit.result) written c.commit.ensures.disk
