-- The promise is not empty: a run that ends in a reading, with the hypothesis met; and logs that do not meet it.
-- Assumes nothing.
use Rattle.std.specs.Prelude.{◌≡◌, ℕ, zero, suc, Bool, false, cond, List, [], ◌∷◌, ◌==◌, nat_lt}
use Rattle.protocol.specs.Message.{office, Packet}
use Rattle.protocol.specs.Warden.{warden_on}
use Rattle.protocol.specs.Office.{write_on, office_on}
use Rattle.protocol.specs.Reader.{read_on, reader_on}
use Rattle.protocol.specs.Log.{Began, Ended, Took, Asked, Retried, Read, Unsure, Log}
use Rattle.protocol.specs.Promise.{Few, Good}
use Rattle.protocol.specs.System.{System, boot, by_office, by_warden, by_reader, Run}

-- nobody lies
abbrev pub honest_all : ℕ → Bool
honest_all i = false

-- what is to happen next: a note is to be written; the packet at a place of the bag comes to whom it is for; a reader is to read
pub data Choice : Type 0 where
  Write : (k : ℕ) (v : List ℕ) → Choice
  Deliver : (place : ℕ) → Choice
  Start : (j k : ℕ) → Choice

-- a packet comes to the office, a warden or a reader
abbrev pub deliver : (n f : ℕ) → Packet → System → System
deliver n f p s =
    cond (p.to == office)
    (by_office n p.note (office_on n f (s.office p.note) p.from p.message) s)
    (cond (nat_lt p.to n)
    (by_warden n p.to p.note (warden_on (s.warden p.to p.note) p.from p.message) s)
    (by_reader n p.to (reader_on n f (s.reader p.to) p.from p.note p.message) s))

-- the packet at a place, if there is one
abbrev pub deliver_at : (n f : ℕ) → (place : ℕ) → List Packet → System → System
deliver_at n f place [] s = s
deliver_at n f zero (p ∷ ps) s = deliver n f p s
deliver_at n f (suc place) (p ∷ ps) s = deliver_at n f place ps s

abbrev pub play : (n f : ℕ) → List Choice → System → System
play n f [] s = s
play n f (Write k v ∷ cs) s = play n f cs (by_office n k (write_on (s.office k) v) s)
play n f (Deliver place ∷ cs) s = play n f cs (deliver_at n f place s.bag s)
play n f (Start j k ∷ cs) s = play n f cs (by_reader n j (read_on (s.reader j) k) s)

-- edition 1 of note 7 is written, taken by four of five wardens, who say so; then the reader 65 reads it
abbrev pub choices : List Choice
choices =
    Write 7 (111 ∷ []) ∷ Deliver 0 ∷ Deliver 2 ∷ Deliver 4 ∷ Deliver 6 ∷ Deliver 0 ∷ Deliver 1 ∷ Deliver 2 ∷ Deliver 3 ∷
    Start 65 7 ∷ Deliver 0 ∷ Deliver 2 ∷ Deliver 4 ∷ Deliver 6 ∷ Deliver 0 ∷ Deliver 1 ∷ Deliver 2 ∷ Deliver 3 ∷ []

abbrev pub wrote : Log
wrote = Ended 7 1 ∷ Took 3 7 1 ∷ Took 2 7 1 ∷ Took 1 7 1 ∷ Took 0 7 1 ∷ Began 7 1 (111 ∷ []) ∷ []

pub record Sample : Type 0 where
  pub run : Run 5 1 honest_all (play 5 1 choices boot)
  pub log : (play 5 1 choices boot).log ≡ Read 65 7 1 (111 ∷ []) ∷ Asked 65 7 ∷ wrote
  pub few : Few 5 1 honest_all 65 7 (Asked 65 7 ∷ wrote)

-- no good log has these
abbrev pub Bad : Log → Type 0
Bad l = Good 5 1 honest_all l → ⊥

pub record BadLogs : Type 0 where
  -- a reading of what is older than what had ended
  pub stale : Bad (Read 65 7 0 [] ∷ Asked 65 7 ∷ wrote)
  -- a reading of a value that was never written
  pub made_up : Bad (Read 65 7 1 (112 ∷ []) ∷ Asked 65 7 ∷ wrote)
  -- a round that read nothing, and unsure, though nothing was being written
  pub idle_retry : Bad (Retried 65 7 ∷ Asked 65 7 ∷ wrote)
  pub idle_unsure : Bad (Unsure 65 7 ∷ Asked 65 7 ∷ wrote)
  -- two values under one edition
  pub two_values : Bad (Began 7 1 (112 ∷ []) ∷ wrote)
  -- an answer that nobody asked for
  pub unasked : Bad (Read 65 7 1 (111 ∷ []) ∷ wrote)
