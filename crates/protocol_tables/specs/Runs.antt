-- What a call of a party with tables promises for every run in which the party is as it was before the call: the run goes on with what the call did, and its log is good.
-- Assumes nothing.
use Rattle.std.specs.Prelude.{◌≡◌, ℕ, ◌<◌, Bool, false}
use mathlib.Core.List.{Memᴰ}
use Rattle.register.specs.Note.{Note}
use Rattle.protocol.specs.Message.{office, Message}
use Rattle.protocol.specs.Step.{Step}
use Rattle.protocol.specs.Warden.{WardenDone}
use Rattle.protocol.specs.Reader.{ReaderDone, Reader}
use Rattle.protocol.specs.Promise.{Good}
use Rattle.protocol_tables.specs.Keep.{Keep}
use Rattle.protocol_tables.specs.Office.{Office, OfficeStep, post}
use Rattle.protocol_tables.specs.System.{System, by_office, by_warden, by_reader, Run}

-- s is what a run has come to, and its log is good
pub record GoodRun (n f : ℕ) (liar : ℕ → Bool) (s : System) : Type 0 where
  pub run : Run n f liar s
  pub good : Good n f liar s.log

-- a message about the note k comes to a warden that has d; o: what the call did
abbrev pub WardenHears : (n f : ℕ) (d : Keep Note) (from k : ℕ) → Message → Step (Keep Note) WardenDone → Type 0
WardenHears n f d from k m o =
    (liar : ℕ → Bool) (s : System) (i : ℕ) → Run n f liar s → i < n → liar i ≡ false → s.warden i ≡ d → Memᴰ (record { from = from; to = i; note = k; message = m }) s.bag →
    GoodRun n f liar (by_warden n i k o s)

-- a message about the note k comes to the office
abbrev pub OfficeHears : (n f : ℕ) (d : Office) (from k : ℕ) → Message → OfficeStep → Type 0
OfficeHears n f d from k m o =
    (liar : ℕ → Bool) (s : System) → Run n f liar s → s.office ≡ d → Memᴰ (record { from = from; to = office; note = k; message = m }) s.bag →
    GoodRun n f liar (by_office n k o s)

-- the office is told to write the note k
abbrev pub OfficeWrites : (n f : ℕ) (d : Office) (k : ℕ) → OfficeStep → Type 0
OfficeWrites n f d k o = (liar : ℕ → Bool) (s : System) → Run n f liar s → s.office ≡ d → GoodRun n f liar (by_office n k o s)

-- it is time for the office to send again
abbrev pub OfficeTicks : (n f : ℕ) (d : Office) → OfficeStep → Type 0
OfficeTicks n f d o =
    (liar : ℕ → Bool) (s : System) → Run n f liar s → s.office ≡ d →
    GoodRun n f liar (record { office = o.next; warden = s.warden; reader = s.reader; bag = post n o.letters s.bag; log = s.log })

-- a message about the note k comes to a reader
abbrev pub ReaderHears : (n f : ℕ) (q : Reader) (from k : ℕ) → Message → Step Reader ReaderDone → Type 0
ReaderHears n f q from k m o =
    (liar : ℕ → Bool) (s : System) (j : ℕ) → Run n f liar s → liar j ≡ false → s.reader j ≡ q → Memᴰ (record { from = from; to = j; note = k; message = m }) s.bag →
    GoodRun n f liar (by_reader n j o s)

-- a reader is told to read, or it is time to ask again
abbrev pub ReaderActs : (n f : ℕ) (q : Reader) → Step Reader ReaderDone → Type 0
ReaderActs n f q o = (liar : ℕ → Bool) (s : System) (j : ℕ) → Run n f liar s → liar j ≡ false → s.reader j ≡ q → GoodRun n f liar (by_reader n j o s)
