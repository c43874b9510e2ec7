-- What holds of a step by the rules holds of a call that did it.
-- Assumes nothing.
use mathlib.Core.Path.{◌≡◌, sym, subst}
use Rattle.protocol.specs.Message.{Sends}
use Rattle.protocol.specs.Step.{Outcome, Step}
use Rattle.parties.specs.Views.{made, Did}

pub along : {S D : Type 0} (P : Step S D → Type 0) {next : S} {sends : Sends} {outcome : Outcome D} {step : Step S D} → Did next sends outcome step → P step → P (made next sends outcome)
along {S} {D} P {next} {sends} {outcome} {step} did h = subst P (sym is) h
  where
    is : made next sends outcome ≡ step
    is = λ t. record { next = did.next_is t; sends = did.sends_is t; outcome = did.outcome_is t }
