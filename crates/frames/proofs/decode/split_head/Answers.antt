use Rattle.std.proofs.Common.{length, ap, arith, length-append}
use Rattle.frames.specs.Format.{be}
use Rattle.frames.proofs.Bytes.{length_be}
use Rattle.frames.proofs.Fronts.{no_kind, too_short}
use Rattle.frames.proofs.decode.split_head.Goals as goal

pub returns-in_err-kind : goal.returns-in_err-kind
returns-in_err-kind c = rw c.from_residual.ensures (no_kind c.in_err-kind.ensures)

pub returns-in_err-note : goal.returns-in_err-note
returns-in_err-note c =
    rw c.from_residual-in_err-note.ensures (too_short c.in_ok-kind.ensures (omega (arith, c.in_err-note.ensures)))

pub returns-in_err-number : goal.returns-in_err-number
returns-in_err-number c =
    let note = c.in_ok-note.note.0 in
    let body = c.in_ok-note.body.now in
    rw c.from_residual-in_err-number.ensures
    (too_short c.in_ok-kind.ensures (omega (arith, ap length c.in_ok-note.ensures, length-append (be 4 note) body, length_be 4 note, c.in_err-number.ensures)))
