-- A warden, for one note: what it has is a note, and this is what it does with a message.
-- Assumes nothing.
use Rattle.std.specs.Prelude.{ℕ, cond, ◌==◌, nat_lt}
use Rattle.register.specs.Note.{Note}
use Rattle.protocol.specs.Message.{office, Message, Take, Took, Ask, Told, One}
use Rattle.protocol.specs.Step.{Step, Done, Refused, refuse}

pub data WardenDone : Type 0 where
  -- it took a later edition; it told what it has
  taken : WardenDone
  answered : WardenDone

-- it has y, and the office says: take x. It says that it took that edition, whether it takes it now or had it or a later one
abbrev pub take_on : Note → Note → Step Note WardenDone
take_on y x =
    cond (nat_lt y.edition x.edition)
    (record { next = x; sends = One office (Took x.edition); outcome = Done taken })
    (record { next = y; sends = One office (Took x.edition); outcome = Refused 2 })

-- it has y, and somebody asks
abbrev pub ask_on : Note → (from round : ℕ) → Step Note WardenDone
ask_on y from r = record { next = y; sends = One from (Told r y); outcome = Done answered }

abbrev pub warden_on : Note → (from : ℕ) → Message → Step Note WardenDone
warden_on y from (Take x) = cond (from == office) (take_on y x) (refuse y 1)
warden_on y from (Took e) = refuse y 1
warden_on y from (Ask r) = ask_on y from r
warden_on y from (Told r x) = refuse y 1
