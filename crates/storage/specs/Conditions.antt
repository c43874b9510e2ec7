-- What is known of a file.
-- Assumes nothing.
use Rattle.std.specs.Prelude.{true, false}
use Rattle.storage.specs.declared.condition.Condition.{Condition}

-- it was just opened: none of it need be synced, and nothing has failed yet
abbrev pub opened : Condition
opened = record { synced = false; placed = false; trusted = true }

-- all that a party may speak of: what is on the file is synced, so is the folder, and nothing has failed
abbrev pub settled : Condition
settled = record { synced = true; placed = true; trusted = true }
