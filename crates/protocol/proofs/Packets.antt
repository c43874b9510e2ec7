-- One packet to each warden.
-- Assumes nothing.
use Rattle.std.proofs.Common.{◌≡◌, ℕ, zero, suc, ◌<◌, [], ◌∷◌, ap, ⊎_elim, arith}
use mathlib.Core.List.Memᴰ
use mathlib.Core.List.{Memᴰ}
use Rattle.std.proofs.lemmas.Bool.{cases_eq}
use Rattle.protocol.specs.Message.{Packet, to_each}

pub of_each : (n : ℕ) (g : ℕ → Packet) (p : Packet) → Memᴰ p (to_each n g) → (i : ℕ) × (i < n) × (p ≡ g i)
unfolding to_each
of_each zero g p at = absurd (Memᴰ.not-nil at)
of_each (suc n) g p at =
    ⊎_elim
    (λ at. let (i, l, is) = of_each n g p at in (i, omega arith, is))
    (λ at. (n, omega arith, Memᴰ.eq_of_singleton at))
    (Memᴰ.append_cases (to_each n g) at)

pub at_each : (n : ℕ) (g : ℕ → Packet) (i : ℕ) → i < n → Memᴰ (g i) (to_each n g)
unfolding to_each
at_each zero g i l = absurd (omega arith)
at_each (suc n) g i l =
    ⊎_elim
    (λ (same : i ≡ n). Memᴰ.append_right (to_each n g) (Memᴰ.head (ap g same)))
    (λ (apart : i ≡ n → ⊥). Memᴰ.append_left (g n ∷ []) (at_each n g i (omega arith)))
    (cases_eq i n)
