-- What holds of a call that may find no memory, and of an error that is told in place of nothing.
-- Assumes nothing.
use Rattle.std.proofs.Common.{◌≡◌, IfOk, IfErr, Ok, Err, Result, MatchResult, Option, MatchOption}
use Rattle.std.specs.Result.{result_ok}

pub if_ok : {A E : Type 0} {P Q : A → Type 0} (R : E → Type 0) (r : Result A E) → ((a : A) → P a → Q a) → MatchResult r P R → IfOk r Q
if_ok R (Ok a) step h = step a h
if_ok R (Err e) step h = tt

pub if_none : {A E : Type 0} {Q : Type 0} (P : Type 0) (R : A → Type 0) (r : Result A E) (o : Option A) → o ≡ result_ok r → MatchOption o P R → (P → Q) → IfErr r (λ _. Q)
if_none P R (Ok a) o is h step = tt
if_none P R (Err e) o is h step = step (rw is at h)
