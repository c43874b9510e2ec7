-- Worked cases, as rows of one table: what comes to the parties of one note, and what each of them comes to.
-- Assumes nothing.
use Rattle.std.specs.Prelude.{◌≡◌, ℕ, List, [], ◌∷◌}
use Rattle.register.specs.Count.{put}
use Rattle.register.specs.Note.{Note, none}
use Rattle.protocol.specs.Message.{office, Message, Take, Took, Told}
use Rattle.protocol.specs.Step.{Step, Outcome, Done, Refused}
use Rattle.protocol.specs.Warden.{WardenDone, taken, warden_on}
use Rattle.protocol.specs.Office.{OfficeDone, begun, counted, ended, Desk, empty_desk, write_on, office_on}
use Rattle.protocol.specs.Reader.{ReaderDone, asked, heard, undecided, read, Reader, new_reader, read_on, reader_on}

-- what comes to somebody: the office is to write; a message comes to it, to the warden i, to the reader; the reader is to read
pub data Input : Type 0 where
  Write : List ℕ → Input
  ToOffice : (from : ℕ) → Message → Input
  ToWarden : (i from : ℕ) → Message → Input
  StartReading : Input
  ToReader : (from : ℕ) → Message → Input

-- what it comes to
pub data Result : Type 0 where
  Office : Outcome OfficeDone → Result
  Warden : Outcome WardenDone → Result
  Reading : Outcome ReaderDone → Result

pub record Stage : Type 0 where
  pub desk : Desk
  pub warden : ℕ → Note
  pub reader : Reader

-- one thing after the other, for n wardens of whom f may lie; the note has the number 0
abbrev pub play : (n f : ℕ) → Stage → List Input → List Result
play n f s [] = []
play n f s (Write v ∷ xs) =
    let o : Step Desk OfficeDone = write_on s.desk v in
    Office o.outcome ∷ play n f (record { desk = o.next; warden = s.warden; reader = s.reader }) xs
play n f s (ToOffice from m ∷ xs) =
    let o : Step Desk OfficeDone = office_on n f s.desk from m in
    Office o.outcome ∷ play n f (record { desk = o.next; warden = s.warden; reader = s.reader }) xs
play n f s (ToWarden i from m ∷ xs) =
    let o : Step Note WardenDone = warden_on (s.warden i) from m in
    Warden o.outcome ∷ play n f (record { desk = s.desk; warden = put i o.next s.warden; reader = s.reader }) xs
play n f s (StartReading ∷ xs) =
    let o : Step Reader ReaderDone = read_on s.reader 0 in
    Reading o.outcome ∷ play n f (record { desk = s.desk; warden = s.warden; reader = o.next }) xs
play n f s (ToReader from m ∷ xs) =
    let o : Step Reader ReaderDone = reader_on n f s.reader from 0 m in
    Reading o.outcome ∷ play n f (record { desk = s.desk; warden = s.warden; reader = o.next }) xs

abbrev pub beginning : Stage
beginning = record { desk = empty_desk; warden = λ i. none; reader = new_reader 1 }

-- a row: five wardens, of whom one may lie; what comes, and what it comes to
pub record Row : Type 0 where
  pub inputs : List Input
  pub results : List Result

abbrev pub Plays : List Row → Type 0
Plays [] = Unit {0}
Plays (r ∷ rs) = (play 5 1 beginning r.inputs ≡ r.results) × Plays rs

-- editions 1 and 2, and what was never written
abbrev pub first : Note
first = record { edition = 1; value = 111 ∷ [] }

abbrev pub second : Note
second = record { edition = 2; value = 99 ∷ [] }

abbrev pub never : Note
never = record { edition = 9; value = 120 ∷ [] }

abbrev pub forged : Note
forged = record { edition = 2; value = 120 ∷ [] }

abbrev pub tells : (i : ℕ) → Note → Input
tells i x = ToReader i (Told 1 x)

-- A: edition 1 is taken by 0, 1, 2 and 3, who say so: it has ended. 4 has not heard of it.
abbrev pub case_a : Row
case_a =
    record {
      inputs = Write (111 ∷ []) ∷ ToWarden 0 office (Take first) ∷ ToWarden 1 office (Take first) ∷ ToWarden 2 office (Take first) ∷ ToWarden 3 office (Take first) ∷ ToOffice 0 (Took 1) ∷ ToOffice 1 (Took 1) ∷ ToOffice 2 (Took 1) ∷ ToOffice 3 (Took 1) ∷ [];
      results = Office (Done begun) ∷ Warden (Done taken) ∷ Warden (Done taken) ∷ Warden (Done taken) ∷ Warden (Done taken) ∷ Office (Done counted) ∷ Office (Done counted) ∷ Office (Done counted) ∷ Office (Done ended) ∷ [];
    }

-- B: told by 1, 2, 4 and the liar 0: editions 1, 1, 0, and 9, which never was. 1 is told by two, and only one is later: it is read.
abbrev pub case_b : Row
case_b =
    record {
      inputs = StartReading ∷ tells 1 first ∷ tells 2 first ∷ tells 4 none ∷ tells 0 never ∷ [];
      results = Reading (Done asked) ∷ Reading (Done heard) ∷ Reading (Done heard) ∷ Reading (Done heard) ∷ Reading (Done (read first)) ∷ [];
    }

-- C: edition 2 was taken by 1 and 2. Told by 0 (2, with a value that it made up), 1 (2), 3 (1) and 4 (0): nothing is told by more than one alike.
abbrev pub case_c : Row
case_c =
    record {
      inputs = StartReading ∷ tells 0 forged ∷ tells 1 second ∷ tells 3 first ∷ tells 4 none ∷ [];
      results = Reading (Done asked) ∷ Reading (Done heard) ∷ Reading (Done heard) ∷ Reading (Done heard) ∷ Reading (Done undecided) ∷ [];
    }

-- D: told by 1 (2), 2 (2), 3 (1), and 0, who lies, (1): 1 is told by two, but two told a later one; 2 is told by two, and nobody a later one: it is read.
abbrev pub case_d : Row
case_d =
    record {
      inputs = StartReading ∷ tells 1 second ∷ tells 2 second ∷ tells 3 first ∷ tells 0 first ∷ [];
      results = Reading (Done asked) ∷ Reading (Done heard) ∷ Reading (Done heard) ∷ Reading (Done heard) ∷ Reading (Done (read second)) ∷ [];
    }

-- E: 3 tells twice in the round, first 1 and then 2: 1 counts, and the second word is passed over.
abbrev pub case_e : Row
case_e =
    record {
      inputs = StartReading ∷ tells 3 first ∷ tells 3 second ∷ tells 1 first ∷ tells 4 none ∷ tells 2 second ∷ [];
      results = Reading (Done asked) ∷ Reading (Done heard) ∷ Reading (Refused 3) ∷ Reading (Done heard) ∷ Reading (Done heard) ∷ Reading (Done (read first)) ∷ [];
    }

-- THE TABLE
abbrev pub Worked : Type 0
Worked = Plays (case_a ∷ case_b ∷ case_c ∷ case_d ∷ case_e ∷ [])
