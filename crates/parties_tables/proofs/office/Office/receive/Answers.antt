use Rattle.std.proofs.Common.{◌≡◌, Ok, refl, ap, ◌∙◌}
use Rattle.parties.specs.Views.{message_of}
use Rattle.parties.specs.declared.step.OfficeDone.{OfficeDone}
use Rattle.parties.specs.declared.step.OfficeDone.TheVariants.{Counted, Ended}
use Rattle.parties_tables.proofs.Hearing.{counted}
use Rattle.parties_tables.proofs.office.Office.receive.Goals as goal

pub returns-in-Ok-Counted-clause-did : goal.returns-in-Ok-Counted-clause-did
returns-in-Ok-Counted-clause-did c =
    let done : c.in-Ok-Counted.field-0 ≡ Counted = rw c.in-Ok-Counted.is at c.in-Ok-Counted.field-0-is in
    counted _ _ _ _ (message_of c.args.incoming.message) c.args.self.now.desks _ c.hear.result.0 Counted c.hear.ensures (c.in-Ok-Counted.is ∙ ap (λ (d : OfficeDone). Ok d) done) refl c.set.new.self c.set.result c.set.ensures _ refl

pub returns-in-Ok-Ended-clause-did : goal.returns-in-Ok-Ended-clause-did
returns-in-Ok-Ended-clause-did c =
    let done : c.in-Ok-Ended.field-0 ≡ Ended = rw c.in-Ok-Ended.is at c.in-Ok-Ended.field-0-is in
    counted _ _ _ _ (message_of c.args.incoming.message) c.args.self.now.desks _ c.hear.result.0 Ended c.hear.ensures (c.in-Ok-Ended.is ∙ ap (λ (d : OfficeDone). Ok d) done) refl c.set-in-Ok-Ended.new.self c.set-in-Ok-Ended.result c.set-in-Ok-Ended.ensures _ c.remove.ensures
