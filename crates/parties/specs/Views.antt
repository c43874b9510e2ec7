-- What the code's values say, as the rules have it; the number of each refusal.
-- Assumes nothing.
use Rattle.std.specs.Prelude.{◌≡◌, ℕ, ◌*◌, ◌<◌, Ok, Err, Result}
use Rattle.notes.specs.Views.{note_of}
use Rattle.protocol.specs.Message as rules
use Rattle.protocol.specs.Step as steps
use Rattle.protocol.specs.Warden as wardens
use Rattle.protocol.specs.Office as offices
use Rattle.protocol.specs.Reader as readers
use Rattle.parties.specs.declared.message.Message.{Message}
use Rattle.parties.specs.declared.message.Message.TheVariants as messages
use Rattle.parties.specs.declared.message.Sends.{Sends}
use Rattle.parties.specs.declared.message.Sends.TheVariants as sends
use Rattle.parties.specs.declared.refusal.Refusal.{Refusal}
use Rattle.parties.specs.declared.refusal.Refusal.TheVariants as refusals
use Rattle.parties.specs.declared.step.WardenDone.{WardenDone}
use Rattle.parties.specs.declared.step.WardenDone.TheVariants as warden_case
use Rattle.parties.specs.declared.step.OfficeDone.{OfficeDone}
use Rattle.parties.specs.declared.step.OfficeDone.TheVariants as office_case
use Rattle.parties.specs.declared.step.ReaderDone.{ReaderDone}
use Rattle.parties.specs.declared.step.ReaderDone.TheVariants as reader_case

-- THE NUMBERS OF THE REFUSALS
abbrev pub number_of : Refusal → ℕ
number_of refusals.Malformed = 1
number_of refusals.NotAbove = 2
number_of refusals.NotAwaited = 3
number_of refusals.NotCounted = 4
number_of refusals.NotNow = 5
number_of refusals.NoRoom = 6

-- what was done, or the number of the refusal
abbrev pub outcome_of : {C D : Type 0} → (C → D) → Result C Refusal → steps.Outcome D
outcome_of done (Ok c) = steps.Done (done c)
outcome_of done (Err r) = steps.Refused (number_of r)

abbrev pub warden_done : WardenDone → wardens.WardenDone
warden_done warden_case.Taken = wardens.taken
warden_done warden_case.Answered = wardens.answered

abbrev pub office_done : OfficeDone → offices.OfficeDone
office_done office_case.Begun = offices.begun
office_done office_case.Resent = offices.resent
office_done office_case.NoWriting = offices.no_writing
office_done office_case.Counted = offices.counted
office_done office_case.Ended = offices.ended

abbrev pub reader_done : ReaderDone → readers.ReaderDone
reader_done reader_case.Asked = readers.asked
reader_done reader_case.AskedAgain = readers.asked_again
reader_done reader_case.Retried = readers.retried
reader_done reader_case.NoReading = readers.no_reading
reader_done reader_case.Heard = readers.heard
reader_done reader_case.Undecided = readers.undecided
reader_done (reader_case.Read x) = readers.read (note_of x)
reader_done reader_case.Unsure = readers.unsure

abbrev pub WardenOutcome : Type 0
WardenOutcome = Result WardenDone Refusal

abbrev pub OfficeOutcome : Type 0
OfficeOutcome = Result OfficeDone Refusal

abbrev pub ReaderOutcome : Type 0
ReaderOutcome = Result ReaderDone Refusal

abbrev pub warden_outcome : WardenOutcome → steps.Outcome wardens.WardenDone
warden_outcome = outcome_of warden_done

abbrev pub office_outcome : OfficeOutcome → steps.Outcome offices.OfficeDone
office_outcome = outcome_of office_done

abbrev pub reader_outcome : ReaderOutcome → steps.Outcome readers.ReaderDone
reader_outcome = outcome_of reader_done

-- WHAT IS SENT
abbrev pub message_of : Message → rules.Message
message_of (messages.Take x) = rules.Take (note_of x)
message_of (messages.Took e) = rules.Took e.0
message_of (messages.Ask r) = rules.Ask r.0
message_of (messages.Told r x) = rules.Told r.0 (note_of x)

abbrev pub sends_of : Sends → rules.Sends
sends_of sends.Nothing = rules.Nothing
sends_of (sends.One to m) = rules.One to.0 (message_of m)
sends_of (sends.Each m) = rules.Each (message_of m)

-- what a call did: its state afterwards, what it sends, what it came to
abbrev pub made : {S D : Type 0} → S → rules.Sends → steps.Outcome D → steps.Step S D
made next sends outcome = record { next = next; sends = sends; outcome = outcome }

-- a call did what the rules say
pub record Did {S D : Type 0} (next : S) (sends : rules.Sends) (outcome : steps.Outcome D) (step : steps.Step S D) : Type 0 where
  pub next_is : next ≡ step.next
  pub sends_is : sends ≡ step.sends
  pub outcome_is : outcome ≡ step.outcome

-- of so many wardens and faults as there can be
abbrev pub ForQuorums : (ℕ → ℕ → Type 0) → Type 0
ForQuorums P = (n f : ℕ) → 4 * f < n → P n f
