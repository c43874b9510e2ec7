-- The numbers that are drawn from a seed: splitmix64.
-- Assumes nothing.
use Rattle.std.specs.Prelude.{ℕ, zero, suc, ◌+◌, ◌-◌, ◌*◌, ◌/◌, ◌%◌, ◌^◌, Bool, cond, not, ◌==◌, bit_xor, if◌then◌else◌, List, [], ◌∷◌, ◌++◌, Option, Some, None}
use Rattle.register.specs.Note.{Note}
use Rattle.protocol.specs.Message.{Message, Take, Took, Ask, Told}

-- the state after a draw
abbrev pub stepped : ℕ → ℕ
stepped s = (s + 0x9E37_79B9_7F4A_7C15) % 2 ^ 64

-- a number with itself shifted to the right by k, mixed in
abbrev pub folded : (k z : ℕ) → ℕ
folded k z = bit_xor z (z / 2 ^ k)

-- what is drawn, from the state after the draw
abbrev pub mixed : ℕ → ℕ
mixed s = folded 31 (folded 27 (folded 30 s * 0xBF58_476D_1CE4_E5B9 % 2 ^ 64) * 0x94D0_49BB_1331_11EB % 2 ^ 64)

-- the next number from a state
abbrev pub drawn : ℕ → ℕ
drawn s = mixed (stepped s)

-- whether a liar speaks at all; the round and the edition that it tells
abbrev pub speaks_by : ℕ → Bool
speaks_by d = not (d % 8 == 0)

abbrev pub round_by : (d asked : ℕ) → ℕ
round_by d r = cond (d % 8 == 0) ((r + 1) % 2 ^ 64) (cond (d % 8 == 1) ((r + (2 ^ 64 - 1)) % 2 ^ 64) r)

abbrev pub edition_by : ℕ → ℕ
edition_by d = cond (d % 11 == 10) (2 ^ 64 - 1) (d % 11)

-- the state after n draws
abbrev pub after : (n s : ℕ) → ℕ
after zero s = s
after (suc n) s = stepped (after n s)

-- n bytes, drawn one after another
abbrev pub bytes_by : (n s : ℕ) → List ℕ
bytes_by zero s = []
bytes_by (suc n) s = bytes_by n s ++ drawn (after n s) % 256 ∷ []

-- a value: first how many bytes, then each of them; and the state after these draws
abbrev pub value_by : ℕ → List ℕ
value_by s = bytes_by (drawn s % 4) (stepped s)

abbrev pub after_value : ℕ → ℕ
after_value s = after (drawn s % 4) (stepped s)

-- a note: first the edition, then the value
abbrev pub note_by : ℕ → Note
note_by s = record { edition = edition_by (drawn s); value = value_by (stepped s) }

-- what a liar says to a message, if anything; and the state after these draws
abbrev pub answer_by : ℕ → Message → Option Message
answer_by s (Take x) = if speaks_by (drawn s) then Some (Took (edition_by (drawn (stepped s)))) else None
answer_by s (Took e) = None
answer_by s (Ask r) = if speaks_by (drawn s) then Some (Told (round_by (drawn (stepped s)) r) (note_by (stepped (stepped s)))) else None
answer_by s (Told r x) = None

abbrev pub after_answer : ℕ → Message → ℕ
after_answer s (Take x) = if speaks_by (drawn s) then stepped (stepped s) else stepped s
after_answer s (Took e) = s
after_answer s (Ask r) = if speaks_by (drawn s) then after_value (stepped (stepped (stepped s))) else stepped s
after_answer s (Told r x) = s
