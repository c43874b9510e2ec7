-- How notes and those who write and keep them are printed.
-- Assumes nothing.
use Rattle.std.specs.Prelude.{ℕ, List, [], ◌∷◌, ◌++◌, ◌/◌, ◌%◌, decimal, codes, false, ◌==◌, if◌then◌else◌}
use Rattle.std.specs.Fmt.{digit_glyph}
use Rattle.std.specs.List.{flat_map}
use Rattle.notes.specs.Views.{bytes_of}
use Rattle.notes.specs.declared.value.Value.{Value}
use Rattle.notes.specs.declared.note.Note.{Note}

-- a party, by its number; 63 is the office
abbrev pub party_text : ℕ → List ℕ
party_text n = if n == 63 then codes "office" else decimal n

-- two hexadecimal digits
abbrev pub byte_text : ℕ → List ℕ
byte_text b = digit_glyph false (b / 16) ∷ digit_glyph false (b % 16) ∷ []

abbrev pub value_text : Value → List ℕ
value_text v = flat_map byte_text (bytes_of v)

-- the edition, and the value if it has any bytes
abbrev pub note_text : Note → List ℕ
note_text x = decimal x.edition.0 ++ (if x.value.length == 0 then [] else 32 ∷ value_text x.value)
