use Rattle.protocol_tables.proofs.wardens_have_room.Goals as goal
use Rattle.protocol_tables.proofs.Room.{never_full}

pub returns : goal.returns
returns c = never_full
