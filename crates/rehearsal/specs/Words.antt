-- The words of a line; they are separated by one space.
-- Assumes nothing.
use Rattle.std.specs.Prelude.{ℕ, Bool, List, length, Option, Some, None, option_map, ◌==◌, nat_lt, if◌then◌else◌}
use Rattle.std.specs.List.{before_first, after_first, position_or_len}
use Rattle.rehearsal.specs.declared.words.Words.{Words}

-- what is still to be read, if anything is
abbrev pub left_of : Words → Option (List ℕ)
left_of w = option_map (λ t. t.now) w.rest

abbrev pub is_space : ℕ → Bool
is_space b = b == 32

-- the next word of what is left, and what is left behind it
abbrev pub word_of : Option (List ℕ) → Option (List ℕ)
word_of None = None
word_of (Some t) = Some (before_first is_space t)

abbrev pub behind_word : Option (List ℕ) → Option (List ℕ)
behind_word None = None
behind_word (Some t) = if nat_lt (position_or_len is_space t) (length t) then Some (after_first is_space t) else None
