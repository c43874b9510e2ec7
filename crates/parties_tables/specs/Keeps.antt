-- A table, as the rules have it.
-- Assumes nothing.
use Rattle.std.specs.Prelude.{◌≡◌, ℕ, true, false, Ok, Err, Result}
use Rattle.std.specs.Option.{unwrap_or, option_map}
use Rattle.notes_table.specs.Views.{map_of, many, had}
use Rattle.notes_table.specs.declared.table.Table.{Table}
use Rattle.notes_table.specs.declared.unplaced.Unplaced.{Unplaced}
use Rattle.notes_table.specs.declared.unplaced.Unplaced.TheVariants.{Full, Memory}
use Rattle.parties.specs.declared.step.Step.{Step}
use Rattle.parties.specs.declared.message.Sends.TheVariants.{Nothing}
use Rattle.parties.specs.declared.refusal.Refusal.TheVariants.{NoRoom}
use Rattle.std.specs.declared.alloc.AllocError.{AllocError}
use Rattle.protocol_tables.specs.Keep.{Keep, room, store}

-- what is had under each number, through a view, and what stands where nothing is had
abbrev pub keep_of : {T A : Type 0} → (view : T → A) (blank : A) → Table T → Keep A
keep_of view blank t = record { at = λ k. unwrap_or (option_map view (map_of t k)) blank; had = had t; many = many t }

-- what came of storing a under the number k: where there is no room, or no memory, nothing has changed
abbrev pub Stored : {A : Type 0} → (k : ℕ) → A → (before after : Keep A) → Result (Unit {0}) Unplaced → Type 0
Stored k a d e (Ok _) = (room k d ≡ true) × (e ≡ store k a d)
Stored k a d e (Err Full) = (room k d ≡ false) × (e ≡ d)
Stored k a d e (Err Memory) = e ≡ d

-- what comes of a step by that
abbrev pub Placed : {D : Type 0} → Step D → Result (Unit {0}) Unplaced → Result (Step D) AllocError → Type 0
Placed step (Ok _) r = r ≡ Ok step
Placed step (Err Full) r = r ≡ Ok (record { outcome = Err NoRoom; sends = Nothing })
Placed step (Err Memory) r = r ≡ Err (record {})
