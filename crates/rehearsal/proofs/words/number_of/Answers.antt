use Rattle.std.proofs.Common.{rules}
use Rattle.rehearsal.proofs.Numbers.{none_signed, none_padded, number_parsed}
use Rattle.rehearsal.proofs.words.number_of.Goals as goal

pub returns-then-starts_with : goal.returns-then-starts_with
returns-then-starts_with c = none_signed _ (search rules)

pub returns-then-word-gt1 : goal.returns-then-word-gt1
returns-then-word-gt1 c = none_padded _ (search rules) (search rules)

pub returns : goal.returns
returns c =
    number_parsed _ c.args.word.now _ _ c.parse.ensures.value.0 c.map_err.ensures.cases (λ plus. search rules) (λ zero. search rules)
