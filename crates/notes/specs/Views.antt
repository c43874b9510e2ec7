-- What the code's values say, as the definitions of the rules have it.
-- Assumes nothing.
use Rattle.std.specs.Prelude.{◌≡◌, ℕ, ◌*◌, ◌/◌, ◌%◌, ◌^◌, ◌<◌, ◌≤◌, Bool, List, map, take, Some, None, Option, ◌==◌, slice_index_or}
use Rattle.std.specs.Borrow.{Bor}
use Rattle.register.specs.Note as rules
use Rattle.register.specs.Rule.{Replies, Reading, Found, Nothing}
use Rattle.notes.specs.declared.value.Value.{Value}
use Rattle.notes.specs.declared.warden_id.WardenId.{WardenId}
use Rattle.notes.specs.declared.note.Note.{Note}
use Rattle.notes.specs.declared.warden_set.WardenSet.{WardenSet}
use Rattle.notes.specs.declared.round.Round.{Round}

-- there can be so many wardens, and so many of them can be reckoned to be faulty
abbrev pub Numbers : (wardens faults : ℕ) → Type 0
Numbers n f = (5 ≤ n) × (n ≤ 63) × (4 * f < n)

abbrev pub bytes_of : Value → List ℕ
bytes_of v = take v.length v.bytes

abbrev pub note_of : Note → rules.Note
note_of x = record { edition = x.edition.0; value = bytes_of x.value }

-- a test tells p of each warden: whenever it answers, it answers that
abbrev pub Tells : (WardenId → Bool → Type 0) → (ℕ → Bool) → Type 0
Tells answers p = (w : WardenId) (r : Bool) → answers w r → r ≡ p w.index

-- who is in the set: the warden i has the bit i
abbrev pub members : WardenSet → ℕ → Bool
members s i = s.bits / 2 ^ i % 2 == 1

abbrev pub replies_of : Round → Replies
replies_of r = record { heard = members r.heard; told = λ i. slice_index_or (map note_of r.told) i rules.none }

-- what a round came to: a part of what was told, or nothing
abbrev pub reading_of : Option (Bor Note) → Reading
reading_of None = Nothing
reading_of (Some x) = Found (note_of x.now)

-- what the warden told of whom the answer speaks, if it speaks of one
abbrev pub told_at : Replies → Option WardenId → Reading
told_at p None = Nothing
told_at p (Some w) = Found (p.told w.index)
