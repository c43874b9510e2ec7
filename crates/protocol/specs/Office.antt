-- The office, for one note.
-- Assumes nothing.
use Rattle.std.specs.Prelude.{ℕ, suc, Bool, true, false, cond, not, ◌&&◌, ◌||◌, List, ◌==◌, nat_le, nat_lt}
use Rattle.register.specs.Count.{count, put}
use Rattle.register.specs.Note.{Note, none}
use Rattle.register.specs.Rule.{quorum}
use Rattle.protocol.specs.Message.{Message, Take, Took, Ask, Told, Each}
use Rattle.protocol.specs.Step.{Step, Done, quiet, refuse}

pub data OfficeDone : Type 0 where
  -- it began to write an edition; it sent the one that is being written again; nothing is being written
  begun : OfficeDone
  resent : OfficeDone
  no_writing : OfficeDone
  -- it counted a warden that took the edition; with this one the writing has come to an end
  counted : OfficeDone
  ended : OfficeDone

-- now: the note of the last edition begun; busy: its writing is under way; acks: who has said that it took it
pub record Desk : Type 0 where
  pub now : Note
  pub busy : Bool
  pub acks : ℕ → Bool

-- nothing was written yet
abbrev pub empty_desk : Desk
empty_desk = record { now = none; busy = false; acks = λ i. false }

-- the last edition that there is, 2 ^ 62 - 1
abbrev pub last_edition : ℕ
last_edition = 4611686018427387903

abbrev pub begin_writing : Desk → (value : List ℕ) → Step Desk OfficeDone
begin_writing d v =
    let x : Note = record { edition = suc d.now.edition; value = v } in
    record { next = record { now = x; busy = true; acks = λ i. false }; sends = Each (Take x); outcome = Done begun }

abbrev pub write_on : Desk → (value : List ℕ) → Step Desk OfficeDone
write_on d v = cond (d.busy || nat_le last_edition d.now.edition) (refuse d 5) (begin_writing d v)

abbrev pub resend : Desk → Step Desk OfficeDone
resend d = record { next = d; sends = Each (Take d.now); outcome = Done resent }

abbrev pub office_tick : Desk → Step Desk OfficeDone
office_tick d = cond d.busy (resend d) (quiet d no_writing)

abbrev pub acknowledge : (i : ℕ) → Desk → Desk
acknowledge i d = record { now = d.now; busy = d.busy; acks = put i true d.acks }

abbrev pub close : Desk → Desk
close d = record { now = d.now; busy = false; acks = d.acks }

-- once all but f of the n wardens have taken it the writing has come to an end
abbrev pub settle : (n f : ℕ) → Desk → Step Desk OfficeDone
settle n f d = cond (quorum n f (count n d.acks)) (quiet (close d) ended) (quiet d counted)

-- the edition is being written, and the warden i has not yet said that it took it
abbrev pub awaits_took : (i edition : ℕ) → Desk → Bool
awaits_took i e d = d.busy && (e == d.now.edition && not (d.acks i))

abbrev pub took_on : (n f : ℕ) → Desk → (i edition : ℕ) → Step Desk OfficeDone
took_on n f d i e = cond (awaits_took i e d) (settle n f (acknowledge i d)) (refuse d 4)

abbrev pub office_on : (n f : ℕ) → Desk → (from : ℕ) → Message → Step Desk OfficeDone
office_on n f d from (Take x) = refuse d 1
office_on n f d from (Took e) = cond (nat_lt from n) (took_on n f d from e) (refuse d 1)
office_on n f d from (Ask r) = refuse d 1
office_on n f d from (Told r x) = refuse d 1
