-- How a message stands to the note that a warden has.
-- Assumes nothing.
use Rattle.std.specs.Prelude.{cond, ℕ, ltb}
use Rattle.register.specs.Note.{Note}
use Rattle.protocol.specs.Message.{Message, Take, Took, Ask, Told}
use Rattle.parties.specs.declared.slot.Standing.{Standing}
use Rattle.parties.specs.declared.slot.Standing.TheVariants.{Above, NotAbove}

-- the edition that a message speaks of; one that asks speaks of the one had
abbrev pub spoken : Note → Message → ℕ
spoken y (Take x) = x.edition
spoken y (Took e) = e
spoken y (Ask r) = y.edition
spoken y (Told r x) = x.edition

abbrev pub standing_of : Note → Message → Standing
standing_of y m = cond (ltb y.edition (spoken y m)) Above NotAbove
