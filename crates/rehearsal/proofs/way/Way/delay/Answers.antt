use Rattle.std.proofs.Common.{[], ◌∷◌, ◌++◌, ap, ◌∙◌}
use Rattle.rehearsal.proofs.way.Way.delay.Goals as goal

pub returns : goal.returns
returns c =
    let taken = c.in-Some.ensures in
    (taken.0, c.in_ok-push.ensures.items ∙ ap (λ ps. ps ++ c.in-Some.packet ∷ []) taken.1)
