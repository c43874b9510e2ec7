-- Ways of fair moves.
-- Assumes nothing.
use Rattle.std.proofs.Common.{◌≡◌, ℕ, Bool, true, false, arith}
use Rattle.protocol.specs.System.{System, Move, Run, then}
use Rattle.protocol.specs.Progress.{honest, fair, Way, here, next}

pub honest_so : (liar : ℕ → Bool) (p : ℕ) → liar p ≡ false → honest liar p ≡ true
honest_so liar p so = grind arith

module _ (n f : ℕ) (liar : ℕ → Bool) where
  -- a fair move
  abbrev pub Fair : System → System → Type 0
  Fair s t = (m : Move n f liar s t) × (fair m ≡ true)

  pub by : {s t u : System} → Fair s t → Way n f liar t u → Way n f liar s u
  by (m, so) way = next m so way

  pub along : {s t u : System} → Way n f liar s t → Way n f liar t u → Way n f liar s u
  along here rest = rest
  along (next m so way) rest = next m so (along way rest)

  pub way_run : {s t : System} → Run n f liar s → Way n f liar s t → Run n f liar t
  way_run r here = r
  way_run r (next m so way) = way_run (then r m) way
