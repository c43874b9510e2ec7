use Rattle.std.proofs.Common.{◌≡◌, map, vec_items, ap, ◌∙◌, arith}
use Rattle.register.specs.Note.{none}
use Rattle.protocol_tables.specs.Keep.{empty}
use Rattle.parties_tables.specs.Wardens.{notes_of}
use Rattle.rehearsal.proofs.Places.{more_same, as_many, nobody}
use Rattle.rehearsal.proofs.cast.new_wardens.Goals as goal

pub loop-made-preserved : goal.loop-made-preserved
loop-made-preserved c =
    ap (map notes_of) c.in_ok-push.ensures.items ∙ more_same notes_of (vec_items c.loop-made.wardens) c.new.result (empty none) c.loop-made.made c.loop-made.invariant c.new.ensures

pub returns : goal.returns
returns c =
    let all : c.loop-made.made ≡ c.args.count = omega arith in
    let many = as_many notes_of (vec_items c.loop-made.wardens) (empty none) c.loop-made.made c.loop-made.invariant in
    (omega (arith, all, many, c.loop-made.wardens.ok.0), nobody notes_of (vec_items c.loop-made.wardens) (empty none) c.loop-made.made c.loop-made.invariant)
