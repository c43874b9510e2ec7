use Rattle.std.proofs.Common.{◌≡◌, ◌++◌, sym, refl, ap, ◌∙◌, append_assoc, rules}
use Rattle.frames.specs.Format.{be, valued}
use Rattle.frames.specs.declared.frame.Frame.TheVariants as frames
use Rattle.frames.proofs.Bytes.{same_rest, too_few}
use Rattle.frames.proofs.Fronts.{no_told, with_value}
use Rattle.frames.proofs.decode.told.Goals as goal

pub returns-in_err-edition : goal.returns-in_err-edition
returns-in_err-edition c = rw c.from_residual.ensures (no_told (λ n v more l e. too_few 8 c.in_err-edition.ensures n _ e))

pub returns : goal.returns
returns c =
    let e = c.in_ok-edition.edition in
    let head : c.args.bytes.now ≡ be 8 e ++ c.in_ok-edition.bytes.now = c.in_ok-edition.ensures in
    with_value (λ v. frames.Told c.args.note c.args.round (record { 0 = e }) v)
    (λ none. no_told (λ n v more l f. none v more l (same_rest 8 _ _ _ _ (sym head ∙ f))))
    (λ v more l f. record { kinds = refl; abouts = refl; numbers = refl; fits = (search rules, search rules, (search rules, l)); tails = head ∙ ap (λ l. be 8 e ++ l) f ∙ sym (append_assoc (be 8 e) (valued v.now) more.now) })
    (λ v f p. search rules)
    c.with_value.result c.with_value.ensures
