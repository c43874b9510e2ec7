-- What a party comes to when something comes to it.
-- Assumes nothing.
use Rattle.std.specs.Prelude.{ℕ}
use Rattle.protocol.specs.Message.{Sends, Nothing}

-- it was done, and how; or it was turned away or passed over, with a number:
-- 1: not a message that this party takes from that sender
-- 2: a take whose edition is not above the one had
-- 3: a told of another round or note, or from one who told before in this round
-- 4: a took of an edition that is not being written, or from one who said so before
-- 5: a write while a writing of that note is under way, or when its editions are used up; a round when a reader's numbers are used up
-- 6: a note that is not had, with as many others had as there may be
pub data Outcome (D : Type 0) : Type 0 where
  Done : D → Outcome D
  Refused : (number : ℕ) → Outcome D

-- S: the party's state; D: the ways in which it does something
pub record Step (S D : Type 0) : Type 0 where
  pub next : S
  pub sends : Sends
  pub outcome : Outcome D

-- it says nothing
abbrev pub quiet : {S D : Type 0} → S → D → Step S D
quiet s d = record { next = s; sends = Nothing; outcome = Done d }

-- nothing changes, and nothing is sent
abbrev pub refuse : {S D : Type 0} → S → ℕ → Step S D
refuse s number = record { next = s; sends = Nothing; outcome = Refused number }
