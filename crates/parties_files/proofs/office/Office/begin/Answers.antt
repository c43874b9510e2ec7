use Rattle.std.proofs.Common.{◌≡◌, Ok, refl, ap, ◌∙◌}
use Rattle.notes.specs.Views.{bytes_of}
use Rattle.parties.specs.declared.step.OfficeDone.{OfficeDone}
use Rattle.parties.specs.declared.step.OfficeDone.TheVariants as outcomes
use Rattle.protocol_tables.specs.Office as rules
use Rattle.protocol_tables.specs.Office.{office_writes}
use Rattle.frames.specs.Format.{Begun, encode}
use Rattle.parties_files.specs.Offices.{desks_of, stopped}
use Rattle.parties_files.proofs.OfficeSteps.{begun_recorded, some_written}
use Rattle.parties_files.proofs.office.Office.begin.Goals as goal

pub returns-in_default-record_begun-clause-did : goal.returns-in_default-record_begun-clause-did
returns-in_default-record_begun-clause-did g c =
    let k = c.args.number.0 in
    let step = office_writes (desks_of c.args.self.now) k (bytes_of c.args.value) in
    let did = c.in_ok-step.ensures.did in
    let done : c.in-Ok-Begun.field-0 ≡ outcomes.Begun = rw c.in-Ok-Begun.is at c.in-Ok-Begun.field-0-is in
    let records = begun_recorded k step c.in_ok-step.step.outcome did.outcome_is (c.in-Ok-Begun.is ∙ ap (λ (d : OfficeDone). Ok d) done) in
    let bytes = ap (λ (o : rules.Office). encode (Begun k (o.desks.at k).now)) did.next_is in
    stopped (record { up = c.if-not-self.false; down = refl; disk = λ d h. some_written (g.S.Storage.holds c.record_begun.new.store) k step _ records _ bytes d (c.in_default-record_begun.ensures.disk d h) })
