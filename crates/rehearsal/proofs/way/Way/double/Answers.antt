use Rattle.rehearsal.proofs.Picks.{picked}
use Rattle.rehearsal.proofs.way.Way.double.Goals as goal

pub returns : goal.returns
returns c = (picked _ _ c.in-Some.place _ c.in-Some.ensures c.index-packet.ensures, c.in_ok-put.ensures.packets)
