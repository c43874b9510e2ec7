use Rattle.std.proofs.Common.{arith}
use Rattle.frames.proofs.Bytes.{reads_8}
use Rattle.frames.proofs.decode.split_number.Goals as goal

pub returns : goal.returns
returns c = reads_8 c.from_be_bytes.result (λ i. omega (arith, c.type_inv.bytes i)) c.in_ok-front.ensures.cases c.from_be_bytes.ensures
