use Rattle.std.proofs.Common.{◌≡◌, ℕ, refl, ap, rules}
use Rattle.notes.specs.declared.ids.Edition.{Edition}
use Rattle.frames.specs.Views.{number_of}
use Rattle.frames.specs.declared.frame.Frame.TheVariants as frames
use Rattle.frames.proofs.Fronts.{Parted, of_kind, begins, whole, no_take, no_begun, with_value}
use Rattle.frames.proofs.decode.first.Goals as goal
use Rattle.frames.proofs.decode.first.Goals.{In_ok-kind}

-- what was cut, where the kind is known
parted : (c : In_ok-kind) (k : ℕ) → number_of c.in_ok-kind.field-0.kind ≡ k → Parted c.args.bytes.now k c.in_ok-kind.field-0.note.0 c.in_ok-kind.field-0.number c.in_ok-kind.field-0.rest.now
parted c k e = of_kind (record { is = c.in_ok-kind.ensures }) e

pub returns-in-Take : goal.returns-in-Take
returns-in-Take c =
    let note = c.in_ok-kind.field-0.note in
    let edition : Edition = record { 0 = c.in_ok-kind.field-0.number } in
    whole (parted (goal.at.returns-in-Take c).In_ok-kind 1 (ap number_of c.in-Take.is)) c.with_value.result
    (with_value (λ v. frames.Take note edition v) no_take (λ v more l e. record { kinds = refl; abouts = refl; numbers = refl; fits = (search rules, (search rules, l)); tails = e }) (λ v f p. search rules) c.with_value.result c.with_value.ensures)

pub returns-in-Told : goal.returns-in-Told
returns-in-Told c =
    whole (parted (goal.at.returns-in-Told c).In_ok-kind 4 (ap number_of c.in-Told.is)) c.told.result c.told.ensures

pub returns-in-Begun : goal.returns-in-Begun
returns-in-Begun c =
    let note = c.in_ok-kind.field-0.note in
    let edition : Edition = record { 0 = c.in_ok-kind.field-0.number } in
    whole (parted (goal.at.returns-in-Begun c).In_ok-kind 5 (ap number_of c.in-Begun.is)) c.with_value-in-Begun.result
    (with_value (λ v. frames.Begun note edition v) no_begun (λ v more l e. record { kinds = refl; abouts = refl; numbers = refl; fits = (search rules, (search rules, l)); tails = e }) (λ v f p. search rules) c.with_value-in-Begun.result c.with_value-in-Begun.ensures)

pub returns-in-Took : goal.returns-in-Took
returns-in-Took c = begins (parted (goal.at.returns-in-Took c).In_ok-kind 2 (ap number_of c.in-Took.is)) _ (record { kinds = refl; abouts = refl; numbers = refl; fits = search rules; tails = refl })

pub returns-in-Ask : goal.returns-in-Ask
returns-in-Ask c = begins (parted (goal.at.returns-in-Ask c).In_ok-kind 3 (ap number_of c.in-Ask.is)) _ (record { kinds = refl; abouts = refl; numbers = refl; fits = search rules; tails = refl })

pub returns-in-Ended : goal.returns-in-Ended
returns-in-Ended c = begins (parted (goal.at.returns-in-Ended c).In_ok-kind 6 (ap number_of c.in-Ended.is)) _ (record { kinds = refl; abouts = refl; numbers = refl; fits = search rules; tails = refl })
