-- What a call of a party's code promises for every run in which the party is as it was before the call: the run goes on with what the call did, and its log is good.
-- Assumes nothing.
use Rattle.std.specs.Prelude.{◌≡◌, ℕ, ◌<◌, Bool, false}
use mathlib.Core.List.{Memᴰ}
use Rattle.register.specs.Note.{Note}
use Rattle.protocol.specs.Message.{office, Message}
use Rattle.protocol.specs.Step.{Step}
use Rattle.protocol.specs.Warden.{WardenDone}
use Rattle.protocol.specs.Office.{OfficeDone, Desk}
use Rattle.protocol.specs.Reader.{ReaderDone, Reader}
use Rattle.protocol.specs.Promise.{Good}
use Rattle.protocol.specs.System.{System, by_office, by_warden, by_reader, Run}

-- s is what a run has come to, and its log is good
pub record GoodRun (n f : ℕ) (liar : ℕ → Bool) (s : System) : Type 0 where
  pub run : Run n f liar s
  pub good : Good n f liar s.log

-- a message comes to a warden that has y; o: what the call did
abbrev pub WardenHears : (n f : ℕ) (y : Note) (from : ℕ) → Message → Step Note WardenDone → Type 0
WardenHears n f y from m o =
    (liar : ℕ → Bool) (s : System) (i k : ℕ) → Run n f liar s → i < n → liar i ≡ false → s.warden i k ≡ y → Memᴰ (record { from = from; to = i; note = k; message = m }) s.bag →
    GoodRun n f liar (by_warden n i k o s)

-- a message comes to the office, whose desk for the note is d
abbrev pub OfficeHears : (n f : ℕ) (d : Desk) (from : ℕ) → Message → Step Desk OfficeDone → Type 0
OfficeHears n f d from m o =
    (liar : ℕ → Bool) (s : System) (k : ℕ) → Run n f liar s → s.office k ≡ d → Memᴰ (record { from = from; to = office; note = k; message = m }) s.bag →
    GoodRun n f liar (by_office n k o s)

-- the office does something of itself: it is told to write, or it is time to send again
abbrev pub OfficeActs : (n f : ℕ) (d : Desk) → Step Desk OfficeDone → Type 0
OfficeActs n f d o = (liar : ℕ → Bool) (s : System) (k : ℕ) → Run n f liar s → s.office k ≡ d → GoodRun n f liar (by_office n k o s)

-- a message about the note k comes to a reader that is as q
abbrev pub ReaderHears : (n f : ℕ) (q : Reader) (from k : ℕ) → Message → Step Reader ReaderDone → Type 0
ReaderHears n f q from k m o =
    (liar : ℕ → Bool) (s : System) (j : ℕ) → Run n f liar s → liar j ≡ false → s.reader j ≡ q → Memᴰ (record { from = from; to = j; note = k; message = m }) s.bag →
    GoodRun n f liar (by_reader n j o s)

-- a reader does something of itself: it is told to read, or it is time to ask again
abbrev pub ReaderActs : (n f : ℕ) (q : Reader) → Step Reader ReaderDone → Type 0
ReaderActs n f q o = (liar : ℕ → Bool) (s : System) (j : ℕ) → Run n f liar s → liar j ≡ false → s.reader j ≡ q → GoodRun n f liar (by_reader n j o s)
