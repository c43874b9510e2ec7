use Rattle.rehearsal.proofs.Picks.{picked}
use Rattle.rehearsal.proofs.way.Way.take.Goals as goal

pub returns : goal.returns
returns c = (picked _ _ c.in_ok-place.place _ c.in_ok-place.ensures c.remove.ensures.value, c.remove.ensures.by_index.2)
