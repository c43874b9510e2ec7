use Rattle.std.proofs.Common.{sym, arith}
use Rattle.register.proofs.Counting.{count_none, count_more}
use Rattle.notes.proofs.quorum.Quorum.count.Goals as goal

pub loop-index-init : goal.loop-index-init
loop-index-init g c = record { bound = omega arith; value = λ p h. sym (count_none p) }

pub loop-index-preserved : goal.loop-index-preserved
loop-index-preserved g c = record { bound = grind arith; value = λ p h. grind (arith, count_more, h _ _ c.test.ensures, c.loop-index.invariant.value p h) }
