-- A table as a finite map from numbers.
-- Assumes nothing.
use Rattle.std.specs.Prelude.{◌≡◌, ℕ, ◌+◌, ◌<◌, Bool, true, false, cond, is_some, Some, Ok, Err, Option, Result, ◌==◌}
use Rattle.std.specs.BTreeMap.{btree_map_len}
use Rattle.std.specs.Map.{lookup}
use Rattle.register.specs.Count.{put}
use Rattle.notes_table.specs.declared.table.Table.{Table}
use Rattle.notes_table.specs.declared.unplaced.Unplaced.{Unplaced}
use Rattle.notes_table.specs.declared.unplaced.Unplaced.TheVariants.{Full, Memory}

-- what is had under each number
abbrev pub map_of : {T : Type 0} → Table T → ℕ → Option T
map_of t k = lookup (λ n. k == n.0) t.notes.entries

-- how many numbers have something
abbrev pub many : {T : Type 0} → Table T → ℕ
many t = btree_map_len t.notes

-- whether something is had under the number k
abbrev pub had : {T : Type 0} → Table T → ℕ → Bool
had t k = is_some (map_of t k)

-- u has what t has
abbrev pub Same : {T : Type 0} → Table T → Table T → Type 0
Same t u = (map_of u ≡ map_of t) × (many u ≡ many t)

-- u has w under the number k in place of what t has there, and else what t has
abbrev pub Replaced : {T : Type 0} → ℕ → T → Table T → Table T → Type 0
Replaced k w t u = (map_of u ≡ put k (Some w) (map_of t)) × (many u ≡ many t)

-- what comes of replacing by w what t has under the number k: the answer, and the table u afterwards
abbrev pub Sets : {T : Type 0} → ℕ → T → Table T → Table T → Bool → Type 0
Sets k w t u true = Replaced k w t u × (had t k ≡ true)
Sets k w t u false = Same t u × (had t k ≡ false)

-- what comes of putting w under the number k into t: the answer, and the table u afterwards.
-- There is one number more exactly if k was not had, and for that there must be a place. What is refused changes nothing.
abbrev pub Puts : {T : Type 0} → ℕ → T → Table T → Table T → Result (Unit {0}) Unplaced → Type 0
Puts k w t u (Ok _) = (map_of u ≡ put k (Some w) (map_of t)) × (many u ≡ cond (had t k) (many t) (many t + 1)) × (had t k ≡ false → many t < 4096)
Puts k w t u (Err Full) = Same t u × (had t k ≡ false) × (many t ≡ 4096)
Puts k w t u (Err Memory) = Same t u × (had t k ≡ false) × (many t < 4096)
