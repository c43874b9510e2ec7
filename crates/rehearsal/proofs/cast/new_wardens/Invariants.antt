use Rattle.std.proofs.Common.{◌≡◌, map, replicate, vec_items}
use Rattle.register.specs.Note.{none}
use Rattle.protocol_tables.specs.Keep.{empty}
use Rattle.parties_tables.specs.Wardens.{notes_of}
use Rattle.rehearsal.proofs.cast.new_wardens.Given as goal

abbrev pub invariant-loop-made : goal.invariant-loop-made
invariant-loop-made l = map notes_of (vec_items l.wardens) ≡ replicate l.made (empty none)
