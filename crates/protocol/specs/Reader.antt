-- A reader: it reads one note at a time, in rounds.
-- Assumes nothing.
use Rattle.std.specs.Prelude.{ℕ, suc, ◌-◌, Bool, true, false, cond, not, ◌&&◌, ◌==◌, nat_le, nat_lt}
use Rattle.register.specs.Note.{Note}
use Rattle.register.specs.Rule.{Replies, silence, reply, answers, quorum, Reading, Found, Nothing, pick}
use Rattle.protocol.specs.Message.{Message, Take, Took, Ask, Told, Each}
use Rattle.protocol.specs.Step.{Step, Done, quiet, refuse}

pub data ReaderDone : Type 0 where
  -- it began to read a note; it asked again in the same round; it began the next round of its reading; it is not reading
  asked : ReaderDone
  asked_again : ReaderDone
  retried : ReaderDone
  no_reading : ReaderDone
  -- it counted a warden; with this one the round was decided: nothing is read and another round may begin; a note is read; it is unsure
  heard : ReaderDone
  undecided : ReaderDone
  read : Note → ReaderDone
  unsure : ReaderDone

-- busy: it is reading; note: which; left: how many more rounds of this reading it may begin; round: the number of its present round;
-- next: the number of the next; replies: what it was told in the present round
pub record Reader : Type 0 where
  pub busy : Bool
  pub note : ℕ
  pub left : ℕ
  pub round : ℕ
  pub next : ℕ
  pub replies : Replies

-- it has begun no round yet, and the first will have this number
abbrev pub new_reader : (first : ℕ) → Reader
new_reader first = record { busy = false; note = 0; left = 0; round = 0; next = first; replies = silence }

-- a reading has up to 20 rounds: the first, and so many more
abbrev pub more_rounds : ℕ
more_rounds = 19

-- rounds have numbers below 2 ^ 64 - 1
abbrev pub last_round : ℕ
last_round = 18446744073709551615

abbrev pub used_up : Reader → Bool
used_up q = nat_le last_round q.next

-- the next round, of a reading of k that may have so many more
abbrev pub in_round : (k left : ℕ) → Reader → Reader
in_round k left q = record { busy = true; note = k; left = left; round = q.next; next = suc q.next; replies = silence }

abbrev pub begin_round : (k left : ℕ) → ReaderDone → Reader → Step Reader ReaderDone
begin_round k left how q =
    cond (used_up q) (refuse q 5) (record { next = in_round k left q; sends = Each (Ask q.next); outcome = Done how })

-- a new reading gives up the one that was under way
abbrev pub read_on : Reader → (k : ℕ) → Step Reader ReaderDone
read_on q k = begin_round k more_rounds asked q

-- so many wardens have told in the present round that it is decided
abbrev pub decided : (n f : ℕ) → Reader → Bool
decided n f q = quorum n f (answers n q.replies)

abbrev pub ask_again : Reader → Step Reader ReaderDone
ask_again q = record { next = q; sends = Each (Ask q.round); outcome = Done asked_again }

-- a round that is decided, and read nothing, is followed by the next; else all are asked again
abbrev pub reader_tick : (n f : ℕ) → Reader → Step Reader ReaderDone
reader_tick n f q = cond q.busy (cond (decided n f q) (begin_round q.note (q.left - 1) retried q) (ask_again q)) (quiet q no_reading)

-- it waits for what the warden i tells of the note k in the round r
abbrev pub awaits_told : (n f i k r : ℕ) → Reader → Bool
awaits_told n f i k r q = q.busy && (k == q.note && (r == q.round && (not (q.replies.heard i) && not (decided n f q))))

abbrev pub hear : (i : ℕ) → Note → Reader → Reader
hear i x q = record { busy = q.busy; note = q.note; left = q.left; round = q.round; next = q.next; replies = reply i x q.replies }

-- the reading is over
abbrev pub over : Reader → Reader
over q = record { busy = false; note = q.note; left = q.left; round = q.round; next = q.next; replies = q.replies }

-- what a decided round comes to
abbrev pub decide : Reader → Reading → Step Reader ReaderDone
decide q (Found x) = quiet (over q) (read x)
decide q Nothing = cond (nat_lt 0 q.left) (quiet q undecided) (quiet (over q) unsure)

-- a round is decided by all but f of the n wardens
abbrev pub settle_round : (n f : ℕ) → Reader → Step Reader ReaderDone
settle_round n f q = cond (decided n f q) (decide q (pick n f q.replies n)) (quiet q heard)

abbrev pub told_on : (n f : ℕ) → Reader → (i k r : ℕ) → Note → Step Reader ReaderDone
told_on n f q i k r x = cond (awaits_told n f i k r q) (settle_round n f (hear i x q)) (refuse q 3)

abbrev pub reader_on : (n f : ℕ) → Reader → (from k : ℕ) → Message → Step Reader ReaderDone
reader_on n f q from k (Take x) = refuse q 1
reader_on n f q from k (Took e) = refuse q 1
reader_on n f q from k (Ask r) = refuse q 1
reader_on n f q from k (Told r x) = cond (nat_lt from n) (told_on n f q from k r x) (refuse q 1)
