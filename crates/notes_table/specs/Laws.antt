-- What follows for whoever has tables of things T. A proof of the record is the theorem.
-- Assumes nothing.
use Rattle.std.specs.Prelude.{◌≡◌, ℕ, ◌<◌, ◌≤◌, Bool, true, false, Some, Ok, Err, Result, ◌≢◌, slice_index_or}
use Rattle.register.specs.Count.{count}
use Rattle.notes.specs.declared.ids.NoteId.{NoteId}
use Rattle.notes_table.specs.Views.{map_of, many, had, Sets, Puts}
use Rattle.notes_table.specs.declared.table.Table.{Table}
use Rattle.notes_table.specs.declared.unplaced.Unplaced.{Unplaced}
use Rattle.notes_table.specs.declared.unplaced.Unplaced.TheVariants.{Full}

pub record Laws (T : Type 0) : Type 0 where
  -- what was put under a number is had under it
  pub own : (k : ℕ) (w : T) (t u : Table T) → Puts k w t u (Ok tt) → map_of u k ≡ Some w
  -- and what is had under the others is as before, whatever came of it
  pub others : (k j : ℕ) (w : T) (t u : Table T) (r : Result (Unit {0}) Unplaced) → Puts k w t u r → (j ≢ k) → map_of u j ≡ map_of t j
  pub others_set : (k j : ℕ) (w : T) (t u : Table T) (r : Bool) → Sets k w t u r → (j ≢ k) → map_of u j ≡ map_of t j
  -- to replace something never fails
  pub over : (k : ℕ) (w : T) (t u : Table T) (r : Result (Unit {0}) Unplaced) → Puts k w t u r → had t k ≡ true → r ≡ Ok tt
  -- a full table takes no other number
  pub full : (k : ℕ) (w : T) (t u : Table T) (r : Result (Unit {0}) Unplaced) → Puts k w t u r → had t k ≡ false → many t ≡ 4096 → r ≡ Err Full
  -- what stands at a place is had under the number at that place
  pub placed : (t : Table T) (i : ℕ) (d : NoteId × T) → i < many t → map_of t (slice_index_or t.notes.entries i d).0.0 ≡ Some (slice_index_or t.notes.entries i d).1
  -- there are as many numbers as have something, and no more than 4,096
  pub counted : (t : Table T) (n : ℕ) → ((k : ℕ) → n ≤ k → had t k ≡ false) → count n (had t) ≡ many t
  pub few : (t : Table T) → many t ≤ 4096
