-- What the parties say to one another.
-- Assumes nothing.
use Rattle.std.specs.Prelude.{ℕ, zero, suc, List, [], ◌∷◌, ◌++◌}
use Rattle.register.specs.Note.{Note}

-- Parties are numbers: the wardens are 0 .. n - 1, the office is 63, and anybody else has a number of its own.
abbrev pub office : ℕ
office = 63

pub data Message : Type 0 where
  -- the office to a warden: take this note; and the warden to the office: I have taken that edition
  Take : Note → Message
  Took : (edition : ℕ) → Message
  -- anybody to a warden, in a round of its own: what do you have; and the warden to it: this
  Ask : (round : ℕ) → Message
  Told : (round : ℕ) → Note → Message

-- a message on its way; note: the number of the note that it is about
pub record Packet : Type 0 where
  pub from : ℕ
  pub to : ℕ
  pub note : ℕ
  pub message : Message

-- what a party sends at once: nothing, a message to one party, or a message to each warden
pub data Sends : Type 0 where
  Nothing : Sends
  One : (to : ℕ) → Message → Sends
  Each : Message → Sends

-- one packet to each of n wardens, in their order
unfoldable pub to_each : ℕ → (ℕ → Packet) → List Packet
to_each zero g = []
to_each (suc n) g = to_each n g ++ (g n ∷ [])

-- the packets of what the party `from` sends about a note
abbrev pub packets : (n from note : ℕ) → Sends → List Packet
packets n from k Nothing = []
packets n from k (One to m) = record { from = from; to = to; note = k; message = m } ∷ []
packets n from k (Each m) = to_each n (λ i. record { from = from; to = i; note = k; message = m })
