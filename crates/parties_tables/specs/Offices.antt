-- The office's tables and letters, as the rules have them.
-- Assumes nothing.
use Rattle.std.specs.Prelude.{◌≡◌, ℕ, true, false, List, [], ◌∷◌, ◌++◌, map, vec_items, Ok, Err, Result}
use Rattle.notes.specs.declared.ids.NoteId.{NoteId}
use Rattle.parties.specs.Desks.{desk_of}
use Rattle.parties.specs.Views.{sends_of}
use Rattle.protocol.specs.Office.{empty_desk}
use Rattle.protocol.specs.Office as desks
use Rattle.protocol.specs.Step as steps
use Rattle.protocol.specs.Message as words
use Rattle.protocol_tables.specs.Keep.{room, store}
use Rattle.protocol_tables.specs.Office as rules
use Rattle.notes_table.specs.declared.unplaced.Unplaced.{Unplaced}
use Rattle.notes_table.specs.declared.unplaced.Unplaced.TheVariants.{Full, Memory}
use Rattle.parties_tables.specs.Keeps.{keep_of}
use Rattle.parties_tables.specs.declared.office.Letter.{Letter}
use Rattle.parties_tables.specs.declared.office.Office.{Office}

abbrev pub number_of : NoteId → ℕ
number_of k = k.0

abbrev pub office_of : Office → rules.Office
office_of o = record { desks = keep_of desk_of empty_desk o.desks; under_way = map number_of (vec_items o.under_way) }

-- what is sent about one note: a letter, unless it is nothing
abbrev pub letter_about : (k : ℕ) → words.Sends → List rules.Letter
letter_about k words.Nothing = []
letter_about k (words.One to m) = record { note = k; sends = words.One to m } ∷ []
letter_about k (words.Each m) = record { note = k; sends = words.Each m } ∷ []

-- what came of beginning the writing of k, at this desk: where there is no room, or no memory, nothing has changed
abbrev pub Begun : (k : ℕ) → desks.Desk → (before after : rules.Office) → Result (Unit {0}) Unplaced → Type 0
Begun k d o p (Ok _) = (room k o.desks ≡ true) × (p ≡ record { desks = store k d o.desks; under_way = o.under_way ++ (k ∷ []) })
Begun k d o p (Err Full) = (room k o.desks ≡ false) × (p ≡ o)
Begun k d o p (Err Memory) = p ≡ o

abbrev pub letter_of : Letter → rules.Letter
letter_of l = record { note = l.note.0; sends = sends_of l.sends }

-- a call did what the rules say
pub record Did (next : rules.Office) (letters : List rules.Letter) (outcome : steps.Outcome desks.OfficeDone) (step : rules.OfficeStep) : Type 0 where
  pub next_is : next ≡ step.next
  pub letters_is : letters ≡ step.letters
  pub outcome_is : outcome ≡ step.outcome
