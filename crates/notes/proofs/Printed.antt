-- One byte more of a value that is printed.
-- Assumes nothing.
use Rattle.std.proofs.Common.{◌≡◌, ℕ, ◌+◌, ◌-◌, ◌^◌, ◌<◌, List, [], ◌++◌, length, get_or, take, false, ap, add-one, take-suc}
use Rattle.std.specs.Fmt.{padded_integral, format_spec, digits}
use Rattle.std.specs.List.{flat_map}
use Rattle.std.proofs.lemmas.Fmt.{hex_byte}
use Rattle.std.proofs.lemmas.Grind.{flat_map-append}
use Rattle.notes.specs.Texts.{byte_text}

pub more_bytes : (bytes : List ℕ) (i d : ℕ) → i < length bytes → get_or bytes i d < 256 → flat_map byte_text (take i bytes) ++ padded_integral (format_spec 32 0 4 2 (2 ^ 64 - 1)) false [] (digits 16 false (get_or bytes i d)) ≡ flat_map byte_text (take (i + 1) bytes)
more_bytes bytes i d inside small =
    rw (add-one, take-suc bytes i d inside, flat_map-append) (ap (λ (t : List ℕ). flat_map byte_text (take i bytes) ++ t) (hex_byte false (get_or bytes i d) small))
