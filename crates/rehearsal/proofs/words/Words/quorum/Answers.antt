use Rattle.std.proofs.Common.{⊎_elim, ap, ◌∙◌, sym, arith}
use Rattle.rehearsal.specs.Words.{word_of}
use Rattle.rehearsal.proofs.Numbers.{same_number}
use Rattle.rehearsal.proofs.Outcomes.{if_none}
use Rattle.rehearsal.proofs.words.Words.quorum.Goals as goal

pub returns-then-wardens-gt-MOST_WARDENS-clause-refused : goal.returns-then-wardens-gt-MOST_WARDENS-clause-refused
returns-then-wardens-gt-MOST_WARDENS-clause-refused c = λ n f few small wardens faults.
    let w = same_number _ c.in_ok-wardens.wardens n (omega arith) (omega arith) c.in_ok-wardens.ensures.number wardens in
    let v = same_number _ c.in_ok-faults.faults f (omega arith) (omega arith) (ap word_of (sym c.in_ok-wardens.ensures.left) ∙ c.in_ok-faults.ensures.number) faults in
    ⊎_elim (λ many. omega arith) (λ many. omega arith) c.then-wardens-gt-MOST_WARDENS.either

pub returns-clause-refused : goal.returns-clause-refused
returns-clause-refused c =
    if_none _ _ c.ok_or.result c.new.result c.ok_or.ensures.ok_part c.new.ensures
    (λ none n f few small wardens faults.
    let w = same_number _ c.in_ok-wardens.wardens n (omega arith) (omega arith) c.in_ok-wardens.ensures.number wardens in
    let v = same_number _ c.in_ok-faults.faults f (omega arith) (omega arith) (ap word_of (sym c.in_ok-wardens.ensures.left) ∙ c.in_ok-faults.ensures.number) faults in
    none (rw (w, v) few))
