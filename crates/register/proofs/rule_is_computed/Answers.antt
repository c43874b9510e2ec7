use Rattle.register.proofs.rule_is_computed.Goals as goal
use Rattle.register.proofs.Picks.{picked}

pub returns : goal.returns
returns c = picked
