-- Who takes part, by number.
-- Assumes nothing.
use Rattle.std.specs.Prelude.{ℕ, ◌+◌, ◌<◌, ◌≤◌, ◌⊎◌}
use Rattle.rehearsal.specs.declared.party.Party.{Party}
use Rattle.rehearsal.specs.declared.party.Party.TheVariants.{Office, Warden, Reader}

abbrev pub party_number : Party → ℕ
party_number Office = 63
party_number (Warden w) = w.index
party_number (Reader q) = 65 + q.index

-- somebody can have this number: a warden, the office, or a reader
abbrev pub TakesPart : ℕ → Type 0
TakesPart n = (n ≤ 63) ⊎ ((65 ≤ n) × (n < 69))
