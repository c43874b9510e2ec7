use Rattle.std.proofs.Common.{Decides, sym, refl, ◌∙◌, subst, arith}
use Rattle.std.proofs.lemmas.List.{nil_from_length}
use Rattle.std.proofs.lemmas.Bool.{false≢true}
use Rattle.frames.specs.Journal.{StrictFront}
use Rattle.frames.proofs.Bytes.{small_behind}
use Rattle.frames.proofs.Strict.{front_of_nothing, none_of_kind, not_held, decides_early}
use Rattle.frames.proofs.record.is_strict_front.Goals as goal

pub returns-then-is_empty : goal.returns-then-is_empty
returns-then-is_empty c =
    let nothing = nil_from_length c.args.bytes.now (grind arith) in
    (λ _. subst (StrictFront c.args.role) (sym nothing) (front_of_nothing c.args.role), λ _. refl)

pub returns-in-None : goal.returns-in-None
returns-in-None c =
    (λ t. absurd (false≢true t), λ s. absurd (none_of_kind c.args.role c.args.bytes.now (grind arith) c.in-None.ensures s))

pub returns-else-may_hold : goal.returns-else-may_hold
returns-else-may_hold c =
    let held = sym c.may_hold.ensures ∙ c.if-may_hold.false in
    (λ t. absurd (false≢true (sym c.if-may_hold.false ∙ t)), λ s. absurd (not_held c.args.role c.in-Some.field-0.kind c.args.bytes.now c.in-Some.field-0.body.now c.in-Some.ensures held s))

pub returns-then-may_hold : goal.returns-then-may_hold
returns-then-may_hold c =
    let small = small_behind c.in-Some.ensures (λ i. omega (arith, c.type_inv.bytes i)) in
    subst (λ t. Decides t (StrictFront c.args.role c.args.bytes.now)) (sym c.ends_early.ensures)
    (decides_early c.args.role c.in-Some.field-0.kind c.args.bytes.now c.in-Some.field-0.body.now c.in-Some.ensures (sym c.may_hold.ensures ∙ c.if-may_hold.true) small)
