-- The bits of a word, and the word with one bit more.
-- Assumes nothing.
use Rattle.std.proofs.Common.{◌≡◌, ℕ, ◌*◌, ◌%◌, ◌^◌, ◌<◌, Bool, true, eqb, refl, ⊎_elim, w64}
use mathlib.Core.Path.{fun_ext}
use lib.Bits.{bit_or}
use Rattle.std.specs.Int.{bit_at}
use Rattle.std.proofs.lemmas.Nat.Bits.{bit_at_set_same, bit_at_set_other}
use Rattle.std.proofs.lemmas.Bool.{cases_eq, eq-eqb, ne_eqb}
use Rattle.register.specs.Count.{put}

abbrev bit : ℕ → ℕ → Bool
bit m i = eqb (bit_at m i) 1

-- `m | 1 << i` at a word of 64 bits
pub word_put : (m i : ℕ) → i < 64 → bit (bit_or m ((1 * 2 ^ i) % 2 ^ 64)) ≡ put i true (bit m)
word_put m i l =
    fun_ext (λ j.
    ⊎_elim
    (λ (e : j ≡ i). rw (e, eq-eqb i i refl, bit_at_set_same w64 m i l))
    (λ (apart : j ≡ i → ⊥). rw (ne_eqb j i apart, bit_at_set_other w64 m i l j apart))
    (cases_eq j i))
