use Rattle.rehearsal.proofs.Sends.{each_none, each_more}
use Rattle.rehearsal.proofs.way.Way.put_each.Goals as goal

pub loop-to-init : goal.loop-to-init
loop-to-init c = each_none _ _

pub loop-to-preserved : goal.loop-to-preserved
loop-to-preserved c = each_more _ _ _ _ _ c.loop-to.invariant c.in_ok-put.ensures.packets
