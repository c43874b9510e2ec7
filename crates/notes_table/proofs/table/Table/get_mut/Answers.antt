use Rattle.std.proofs.Common.{refl, ◌∙◌, rules}
use Rattle.notes_table.proofs.Looks.{looked, updated, same_table}
use Rattle.notes_table.proofs.table.Table.get_mut.Goals as goal

pub returns : goal.returns
returns g c =
    let t = c.args.self.now in
    let held = c.get_mut.ensures.value in (
      (refl, λ w some. let (_, _, many, updates, _) = c.get_mut.follows.holds w in (updated c.args.number w t.notes (c.get_mut.follows.lender w) (updates (Prim.search rules)).0, many), same_table _ t c.get_mut.follows.holds-at-none),
      record { writes_back = tt; facts = held ∙ looked c.args.number t.notes.entries },
    )
