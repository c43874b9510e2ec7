-- A note: an edition, and the bytes of its value.
-- Assumes nothing.
use Rattle.std.specs.Prelude.{ℕ, Bool, ◌&&◌, List, [], ◌==◌}
use Rattle.std.specs.Str.{bytes_eq}

pub record Note : Type 0 where
  pub edition : ℕ
  pub value : List ℕ

-- what stands where nothing was ever written
abbrev pub none : Note
none = record { edition = 0; value = [] }

-- alike, edition and value
abbrev pub same : Note → Note → Bool
same x y = x.edition == y.edition && bytes_eq x.value y.value
