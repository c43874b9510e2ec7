use Rattle.std.proofs.Common.{◌≡◌, Ok, refl, ap, ◌∙◌}
use Rattle.parties.specs.Views.{message_of}
use Rattle.parties.specs.declared.step.OfficeDone.{OfficeDone}
use Rattle.parties.specs.declared.step.OfficeDone.TheVariants as outcomes
use Rattle.protocol_tables.specs.Office as rules
use Rattle.protocol_tables.specs.Office.{office_hears}
use Rattle.frames.specs.Format.{Ended, encode}
use Rattle.parties_files.specs.Offices.{desks_of, stopped}
use Rattle.parties_files.proofs.OfficeSteps.{ended_recorded, some_written}
use Rattle.parties_files.proofs.office.Office.receive.Goals as goal

pub returns-in_default-record_ended-clause-did : goal.returns-in_default-record_ended-clause-did
returns-in_default-record_ended-clause-did g c =
    let quorum = c.args.self.now.desks.quorum in
    let k = c.args.incoming.note.0 in
    let step = office_hears quorum.wardens quorum.faults (desks_of c.args.self.now) c.args.incoming.from.0 k (message_of c.args.incoming.message) in
    let did = c.on-step.ensures.did in
    let done : c.in-Ok-Ended.field-0 ≡ outcomes.Ended = rw c.in-Ok-Ended.is at c.in-Ok-Ended.field-0-is in
    let records = ended_recorded k step c.on-step.result.outcome did.outcome_is (c.in-Ok-Ended.is ∙ ap (λ (d : OfficeDone). Ok d) done) in
    let bytes = ap (λ (o : rules.Office). encode (Ended k (o.desks.at k).now.edition)) did.next_is in
    stopped (record { up = c.if-not-self.false; down = refl; disk = λ d h. some_written (g.S.Storage.holds c.record_ended.new.store) k step _ records _ bytes d (c.in_default-record_ended.ensures.disk d h) })
