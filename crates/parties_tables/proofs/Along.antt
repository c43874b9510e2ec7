-- What holds of a step by the rules holds of a call that did it.
-- Assumes nothing.
use Rattle.std.proofs.Common.{◌≡◌, List, IfOk, Ok, Err, Result, sym, subst, MatchResult}
use Rattle.protocol.specs.Office.{OfficeDone}
use Rattle.protocol.specs.Step.{Outcome}
use Rattle.protocol_tables.specs.Office.{Office, Letter, OfficeStep}
use Rattle.parties_tables.specs.Offices.{Did}

pub along : (P : OfficeStep → Type 0) {next : Office} {letters : List Letter} {outcome : Outcome OfficeDone} {step : OfficeStep} → Did next letters outcome step → P step → P (record { next = next; letters = letters; outcome = outcome })
along P {next} {letters} {outcome} {step} did h = subst P (sym is) h
  where
    is : ◌≡◌ {A = OfficeStep} (record { next = next; letters = letters; outcome = outcome }) step
    is = λ t. record { next = did.next_is t; letters = did.letters_is t; outcome = did.outcome_is t }

-- of a call that may find no memory
pub if_ok : {A E : Type 0} {P Q : A → Type 0} (R : E → Type 0) (r : Result A E) → ((a : A) → P a → Q a) → MatchResult r P R → IfOk r Q
if_ok R (Ok a) step h = step a h
if_ok R (Err e) step h = tt

pub if_made : {A E : Type 0} {P Q : A → Type 0} (r : Result A E) → ((a : A) → P a → Q a) → IfOk r P → IfOk r Q
if_made (Ok a) step h = step a h
if_made (Err e) step h = tt
