use Rattle.std.proofs.Common.{rules, arith}
use Rattle.std.proofs.Output.{has_written_append, has_written_of_eq}
use Rattle.notes.proofs.Printed.{more_bytes}
use Rattle.notes.proofs.text.ValueDisplay.fmt.Goals as goal

pub loop-byte-preserved : goal.loop-byte-preserved
loop-byte-preserved g c = λ plain.
    has_written_of_eq _ _ _ _ _ (more_bytes c.bytes-bytes.result.now c.loop-byte.byte-index 0 (omega arith) (omega (arith, c.type_inv.bytes c.loop-byte.byte-index)))
    (has_written_append _ _ _ _ _ _ (c.loop-byte.invariant plain) (search rules))
