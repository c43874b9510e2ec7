-- What a table has once something was put there, as the rules have it.
-- Assumes nothing.
use Rattle.std.proofs.Common.{◌≡◌, ℕ, ◌<◌, Bool, true, false, ◌||◌, nat_lt, suc, cond, add-one, Some, None, Ok, Err, Option, Result, refl, sym, ap, ◌∙◌, rules}
use Rattle.std.specs.Option.{unwrap_or, option_map, is_some}
use Rattle.std.proofs.lemmas.Bool.{both_ways, cond-true, false≢true}
use Rattle.register.specs.Count.{put}
use Rattle.register.proofs.Put.{put_map}
use Rattle.notes_table.specs.Views.{map_of, many, had, Same, Sets, Puts}
use Rattle.notes_table.specs.declared.table.Table.{Table}
use Rattle.notes_table.specs.declared.unplaced.Unplaced.{Unplaced}
use Rattle.notes_table.specs.declared.unplaced.Unplaced.TheVariants.{Full, Memory}
use Rattle.protocol_tables.specs.Keep.{store}
use Rattle.protocol.specs.Office.{empty_desk}
use Rattle.parties.specs.Desks.{desk_of}
use Rattle.parties.specs.declared.desk.Desk.{Desk}
use Rattle.parties_tables.specs.Keeps.{keep_of, Stored}

roomy : (had : Bool) (many : ℕ) → (had ≡ false → many < 4096) → (had || nat_lt many 4096) ≡ true
roomy true m room = refl
roomy false m room = let less = room refl in Prim.search rules

full : (had : Bool) (many : ℕ) → had ≡ false → many ≡ 4096 → (had || nat_lt many 4096) ≡ false
full had many new all = rw (new, all) refl

module _ {T A : Type 0} (view : T → A) (blank : A) where
  abbrev seen : Option T → A
  seen o = unwrap_or (option_map view o) blank

  -- two tables that have the same
  same : (t u : Table T) → Same t u → keep_of view blank u ≡ keep_of view blank t
  same t u (map, many) = λ i. record { at = λ j. seen (map i j); had = λ j. is_some (map i j); many = many i }

  -- w was put under the number k, in place of what was had or as one more
  replaced : (k : ℕ) (w : T) (t u : Table T) → map_of u ≡ put k (Some w) (map_of t) → many u ≡ cond (had t k) (many t) (suc (many t)) → keep_of view blank u ≡ store k (view w) (keep_of view blank t)
  replaced k w t u map count = λ i. record { at = at i; had = has i; many = count i }
    where
      at : (λ j. seen (map_of u j)) ≡ put k (view w) (λ j. seen (map_of t j))
      at = ap (λ (g : ℕ → Option T). λ j. seen (g j)) map ∙ sym (put_map seen k (Some w) (map_of t))

      has : had u ≡ put k true (had t)
      has = ap (λ (g : ℕ → Option T). λ j. is_some (g j)) map ∙ sym (put_map is_some k (Some w) (map_of t))

  pub stored : (k : ℕ) (w : T) (t u : Table T) (r : Result (Unit {0}) Unplaced) → Puts k w t u r → Stored k (view w) (keep_of view blank t) (keep_of view blank u) r
  stored k w t u (Ok x) (map, more, room) = (roomy (had t k) (many t) room, replaced k w t u map (rw add-one at more))
  stored k w t u (Err Full) (kept, new, all) = (full (had t k) (many t) new all, same t u kept)
  stored k w t u (Err Memory) (kept, _, _) = same t u kept

  -- what is had is replaced
  pub set_had : (k : ℕ) (w : T) (t u : Table T) (r : Bool) → Sets k w t u r → had t k ≡ true → keep_of view blank u ≡ store k (view w) (keep_of view blank t)
  set_had k w t u true ((map, count), _) has = replaced k w t u map (count ∙ sym (cond-true (had t k) (many t) (suc (many t)) has))
  set_had k w t u false (_, lacks) has = absurd (both_ways (had t k) lacks has)

-- a desk was put under the number k
pub desk_stored : (k : ℕ) (w : Desk) (t u : Table Desk) (r : Result (Unit {0}) Unplaced) → Puts k w t u r → Stored k (desk_of w) (keep_of desk_of empty_desk t) (keep_of desk_of empty_desk u) r
desk_stored = stored desk_of empty_desk

-- a desk at which a writing is under way is had
pub busy_had : (k : ℕ) (t : Table Desk) → ((keep_of desk_of empty_desk t).at k).busy ≡ true → had t k ≡ true
busy_had k t = by_entry (map_of t k)
  where
    by_entry : (o : Option Desk) → (unwrap_or (option_map desk_of o) empty_desk).busy ≡ true → is_some o ≡ true
    by_entry (Some d) busy = refl
    by_entry None busy = absurd (false≢true busy)
