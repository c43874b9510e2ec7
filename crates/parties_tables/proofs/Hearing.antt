-- What the office has once it has counted a warden.
-- Assumes nothing.
use Rattle.std.proofs.Common.{◌≡◌, ℕ, Bool, true, List, Ok, cond, refl, sym, ap, ◌∙◌, subst}
use Rattle.std.proofs.lemmas.Bool.{false≢true}
use Rattle.protocol.specs.Message.{Message, Sends, Nothing}
use Rattle.protocol.specs.Office.{Desk, OfficeDone, empty_desk, office_on}
use Rattle.protocol.specs.Step.{Step, Outcome}
use Rattle.protocol.proofs.PartyCases.{OfficeCase, took_counts, took_ends, office_passes, office_case}
use Rattle.protocol_tables.specs.Keep.{store}
use Rattle.protocol_tables.specs.Office.{Office, counts, ends, without, office_hears}
use Rattle.parties.specs.Desks.{desk_of}
use Rattle.parties.specs.declared.desk.Desk as code
use Rattle.parties.specs.declared.step.OfficeDone as done
use Rattle.parties.specs.Views as steps
use Rattle.notes_table.specs.Views.{Sets}
use Rattle.notes_table.specs.declared.table.Table.{Table}
use Rattle.parties_tables.specs.Keeps.{keep_of}
use Rattle.parties_tables.specs.Offices.{letter_about, Did}
use Rattle.parties_tables.proofs.Tables.{set_had, busy_had}

module _ (n f from k : ℕ) (o : Office) where
  -- the desk is busy at which somebody is counted, and nothing is sent
  busy_at : (m : Message) (s : Step Desk OfficeDone) → OfficeCase n f (o.desks.at k) from m s → counts s.outcome ≡ true → (o.desks.at k).busy ≡ true
  busy_at _ _ (took_counts _ busy _) h = busy
  busy_at _ _ (took_ends _ busy _) h = busy
  busy_at _ _ (office_passes e) h = absurd (false≢true h)

  silent : (m : Message) (s : Step Desk OfficeDone) → OfficeCase n f (o.desks.at k) from m s → s.sends ≡ Nothing
  silent _ _ (took_counts _ _ _) = refl
  silent _ _ (took_ends _ _ _) = refl
  silent _ _ (office_passes e) = refl

  -- what was done at the desk was done at the one that it has
  pub at_desk : (m : Message) (d : code.Desk) {next : Desk} {sends : Sends} {outcome : Outcome OfficeDone} → desk_of d ≡ o.desks.at k → steps.Did next sends outcome (office_on n f (desk_of d) from m) → steps.Did next sends outcome (office_on n f (o.desks.at k) from m)
  at_desk m d {next} {sends} {outcome} is did = subst (λ (e : Desk). steps.Did next sends outcome (office_on n f e from m)) is did

  module _ (m : Message) (next : Desk) (sends : Sends) (outcome : Outcome OfficeDone) (did : steps.Did next sends outcome (office_on n f (o.desks.at k) from m)) (counted : counts outcome ≡ true) where
    so : counts (office_on n f (o.desks.at k) from m).outcome ≡ true
    so = sym (ap counts did.outcome_is) ∙ counted

    busy : (o.desks.at k).busy ≡ true
    busy = busy_at m _ (office_case n f (o.desks.at k) from m) so

    heard : (p : Office) → p ≡ record { desks = store k next o.desks; under_way = cond (ends outcome) (without k o.under_way) o.under_way } → Did p (letter_about k sends) outcome (office_hears n f o from k m)
    heard p is =
        rw so record {
          next_is = is ∙ λ i. record { desks = store k (did.next_is i) o.desks; under_way = cond (ends (did.outcome_is i)) (without k o.under_way) o.under_way };
          letters_is = ap (letter_about k) (did.sends_is ∙ silent m _ (office_case n f (o.desks.at k) from m));
          outcome_is = did.outcome_is;
        }

-- a desk of the table t at which somebody was counted stands in the table u
module _ (n f from k : ℕ) (m : Message) (t : Table code.Desk) (under_way : List ℕ) where
  abbrev before : Office
  before = record { desks = keep_of desk_of empty_desk t; under_way = under_way }

  pub counted : (next : code.Desk) {sends : Sends} {x : steps.OfficeOutcome} (y : done.OfficeDone) → steps.Did (desk_of next) sends (steps.office_outcome x) (office_on n f (before.desks.at k) from m) → x ≡ Ok y → counts (steps.office_outcome (Ok y)) ≡ true →
      (u : Table code.Desk) (r : Bool) → Sets k next t u r → (left : List ℕ) → left ≡ cond (ends (steps.office_outcome (Ok y))) (without k under_way) under_way →
      Did (record { desks = keep_of desk_of empty_desk u; under_way = left }) (letter_about k sends) (steps.office_outcome x) (office_hears n f before from k m)
  counted next {sends} {x} y here was counting u r sets left rest =
      let outcome = ap steps.office_outcome was in
      let so = ap counts outcome ∙ counting in
      let kept = set_had desk_of empty_desk k next t u r sets (busy_had k t (busy n f from k before m (desk_of next) sends (steps.office_outcome x) here so)) in
      heard n f from k before m (desk_of next) sends (steps.office_outcome x) here so _ (rw outcome (λ i. record { desks = kept i; under_way = rest i }))
