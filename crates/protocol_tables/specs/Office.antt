-- The office with many notes.
-- Assumes nothing.
use Rattle.std.specs.Prelude.{ℕ, Bool, true, false, cond, ◌&&◌, List, [], ◌∷◌, ◌++◌, map, ◌==◌}
use Rattle.protocol.specs.Message.{office, Message, Take, Packet, Sends, Each, packets}
use Rattle.protocol.specs.Step.{Outcome, Done, Refused, Step}
use Rattle.protocol.specs.Office.{OfficeDone, begun, resent, no_writing, counted, ended, Desk, empty_desk, close, write_on, office_on}
use Rattle.protocol_tables.specs.Keep.{Keep, empty, room, store}

-- desks: one for each note; under_way: the notes that are being written, in the order in which those writings began
pub record Office : Type 0 where
  pub desks : Keep Desk
  pub under_way : List ℕ

abbrev pub empty_office : Office
empty_office = record { desks = empty empty_desk; under_way = [] }

-- what is sent about a note
pub record Letter : Type 0 where
  pub note : ℕ
  pub sends : Sends

-- what comes of something: what is sent, one letter after the other
pub record OfficeStep : Type 0 where
  pub next : Office
  pub letters : List Letter
  pub outcome : Outcome OfficeDone

-- letters on their way, together with what was on its way before
abbrev pub post : (n : ℕ) → List Letter → List Packet → List Packet
post n [] bag = bag
post n (l ∷ ls) bag = post n ls (packets n office l.note l.sends ++ bag)

-- nothing changes, and nothing is sent
abbrev pub leave : Office → Outcome OfficeDone → OfficeStep
leave o out = record { next = o; letters = []; outcome = out }

-- a list without a number
abbrev pub without : ℕ → List ℕ → List ℕ
without k [] = []
without k (x ∷ xs) = cond (k == x) (without k xs) (x ∷ without k xs)

-- a writing began; a took was counted; a writing ended
abbrev pub begins : Outcome OfficeDone → Bool
begins (Done begun) = true
begins (Done resent) = false
begins (Done no_writing) = false
begins (Done counted) = false
begins (Done ended) = false
begins (Refused m) = false

abbrev pub counts : Outcome OfficeDone → Bool
counts (Done begun) = false
counts (Done resent) = false
counts (Done no_writing) = false
counts (Done counted) = true
counts (Done ended) = true
counts (Refused m) = false

abbrev pub ends : Outcome OfficeDone → Bool
ends (Done begun) = false
ends (Done resent) = false
ends (Done no_writing) = false
ends (Done counted) = false
ends (Done ended) = true
ends (Refused m) = false

-- the step that the rules for one note ask for when it is to be written; a note that is not had is turned away with 6 if there is no room
abbrev pub keep_writing : Office → (k : ℕ) → Step Desk OfficeDone → OfficeStep
keep_writing o k s =
    cond (begins s.outcome)
    (cond (room k o.desks)
    (record { next = record { desks = store k s.next o.desks; under_way = o.under_way ++ (k ∷ []) }; letters = record { note = k; sends = s.sends } ∷ []; outcome = s.outcome })
    (leave o (Refused 6)))
    (leave o s.outcome)

abbrev pub office_writes : Office → (k : ℕ) → List ℕ → OfficeStep
office_writes o k v = keep_writing o k (write_on (o.desks.at k) v)

-- the step that the rules for one note ask for when a message comes
abbrev pub keep_counting : Office → (k : ℕ) → Step Desk OfficeDone → OfficeStep
keep_counting o k s =
    cond (counts s.outcome)
    (record { next = record { desks = store k s.next o.desks; under_way = cond (ends s.outcome) (without k o.under_way) o.under_way }; letters = []; outcome = s.outcome })
    (leave o s.outcome)

abbrev pub office_hears : (n f : ℕ) → Office → (from k : ℕ) → Message → OfficeStep
office_hears n f o from k m = keep_counting o k (office_on n f (o.desks.at k) from m)

-- if the edition e of k is being written, its writing has come to an end, by what was heard before
abbrev pub close_writing : Office → (k e : ℕ) → Office
close_writing o k e =
    cond ((o.desks.at k).busy && e == (o.desks.at k).now.edition)
    (record { desks = store k (close (o.desks.at k)) o.desks; under_way = without k o.under_way })
    o

-- each writing under way is sent again, in the order in which they began
abbrev pub again : Keep Desk → ℕ → Letter
again d k = record { note = k; sends = Each (Take (d.at k).now) }

-- whether anything is being written
abbrev pub tick_outcome : List ℕ → Outcome OfficeDone
tick_outcome [] = Done no_writing
tick_outcome (k ∷ ks) = Done resent

abbrev pub office_ticks : Office → OfficeStep
office_ticks o = record { next = o; letters = map (again o.desks) o.under_way; outcome = tick_outcome o.under_way }
