use Rattle.notes_table.proofs.Looks.{few_after, put_in, unplaced}
use Rattle.notes_table.proofs.table.Table.insert.Goals as goal

pub invariant_of-self-clause-few : goal.invariant_of-self-clause-few
invariant_of-self-clause-few g c =
    let made = c.insert.ensures in
    few_after c.args.number c.args.self.now c.requires c.insert.new.self _ made.old made.len made.err

pub returns-in_err-insert : goal.returns-in_err-insert
returns-in_err-insert g c =
    let failed = c.in_err-insert.ensures in
    unplaced c.args.number c.args.self.now c.requires c.args.item c.insert.new.self c.insert.ensures.ordered c.from_residual.result c.from_residual.ensures.1 failed.err failed.absent

pub returns : goal.returns
returns g c =
    let done = c.in_ok-insert.ensures in
    put_in c.args.number c.args.self.now c.requires c.args.item c.insert.new.self done.updates.0 c.in_ok-insert.field-0 done.old done.len
