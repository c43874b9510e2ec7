use Rattle.std.proofs.Common.{arith}
use Rattle.frames.proofs.Bytes.{reads_4}
use Rattle.frames.proofs.decode.split_note.Goals as goal

pub returns : goal.returns
returns c = reads_4 c.from_be_bytes.result (λ i. omega (arith, c.type_inv.bytes i)) c.in_ok-front.ensures.cases c.from_be_bytes.ensures
