-- What each party does, case by case.
-- Assumes nothing.
use Rattle.std.proofs.Common.{◌≡◌, ℕ, ◌-◌, ◌<◌, ◌≤◌, true, false, cond, not, ◌&&◌, ◌||◌, eqb, ltb, leb, List, arith}
use Rattle.std.proofs.lemmas.Bool.{cond_both, and_parts, or_parts, eqb-true, ltb-true, ltb-false, not-true}
use Rattle.register.specs.Count.{count}
use Rattle.register.specs.Note.{Note}
use Rattle.register.specs.Rule.{quorum, Reading, Found, Nothing, pick}
use Rattle.protocol.specs.Message.{office, Message, Take, Took, Ask, Told, One, Each}
use Rattle.protocol.specs.Step.{Step, Done, Refused, quiet, refuse}
use Rattle.protocol.specs.Warden.{WardenDone, taken, take_on, ask_on, warden_on}
use Rattle.protocol.specs.Office.{OfficeDone, counted, ended, Desk, last_edition, begin_writing, write_on, acknowledge, close, settle, awaits_took, took_on, office_on}
use Rattle.protocol.specs.Reader.{ReaderDone, retried, no_reading, heard, undecided, read, unsure, Reader, used_up, in_round, begin_round, decided, ask_again, reader_tick, awaits_told, hear, over, decide, settle_round, told_on, reader_on}

-- A WARDEN that has y hears a message
-- it takes x
abbrev pub takes_note : Note → Step Note WardenDone
takes_note x = record { next = x; sends = One office (Took x.edition); outcome = Done taken }

-- it had this edition, or a later one
abbrev pub had_note : (y x : Note) → Step Note WardenDone
had_note y x = record { next = y; sends = One office (Took x.edition); outcome = Refused 2 }

pub data WardenCase (y : Note) (from : ℕ) : Message → Step Note WardenDone → Type 0 where
  warden_takes : (x : Note) → from ≡ office → y.edition < x.edition → WardenCase y from (Take x) (takes_note x)
  warden_had : (x : Note) → from ≡ office → x.edition ≤ y.edition → WardenCase y from (Take x) (had_note y x)
  warden_answers : (r : ℕ) → WardenCase y from (Ask r) (ask_on y from r)
  warden_passes : {m : Message} → WardenCase y from m (refuse y 1)

pub warden_case : (y : Note) (from : ℕ) (m : Message) → WardenCase y from m (warden_on y from m)
warden_case y from (Take x) =
    cond_both (eqb from office) (take_on y x) (refuse y 1) (WardenCase y from (Take x))
    (λ sent. cond_both (ltb y.edition x.edition) (takes_note x) (had_note y x) (WardenCase y from (Take x))
    (λ late. warden_takes x (eqb-true from office sent) (ltb-true y.edition x.edition late))
    (λ early. warden_had x (eqb-true from office sent) (ltb-false y.edition x.edition early)))
    (λ _. warden_passes)
warden_case y from (Took e) = warden_passes
warden_case y from (Ask r) = warden_answers r
warden_case y from (Told r x) = warden_passes

-- THE OFFICE is told to write
pub data WriteCase (d : Desk) (v : List ℕ) : Step Desk OfficeDone → Type 0 where
  write_begins : d.busy ≡ false → leb last_edition d.now.edition ≡ false → WriteCase d v (begin_writing d v)
  write_refused : WriteCase d v (refuse d 5)

pub write_case : (d : Desk) (v : List ℕ) → WriteCase d v (write_on d v)
write_case d v =
    cond_both (d.busy || leb last_edition d.now.edition) (refuse d 5) (begin_writing d v) (WriteCase d v)
    (λ _. write_refused)
    (λ free. let (idle, low) = or_parts d.busy (leb last_edition d.now.edition) free in write_begins idle low)

-- it hears a message
pub data OfficeCase (n f : ℕ) (d : Desk) (from : ℕ) : Message → Step Desk OfficeDone → Type 0 where
  took_counts : from < n → d.busy ≡ true → quorum n f (count n (acknowledge from d).acks) ≡ false → OfficeCase n f d from (Took d.now.edition) (quiet (acknowledge from d) counted)
  took_ends : from < n → d.busy ≡ true → quorum n f (count n (acknowledge from d).acks) ≡ true → OfficeCase n f d from (Took d.now.edition) (quiet (close (acknowledge from d)) ended)
  office_passes : {m : Message} (e : ℕ) → OfficeCase n f d from m (refuse d e)

pub office_case : (n f : ℕ) (d : Desk) (from : ℕ) (m : Message) → OfficeCase n f d from m (office_on n f d from m)
office_case n f d from (Take x) = office_passes 1
office_case n f d from (Took e) =
    cond_both (ltb from n) (took_on n f d from e) (refuse d 1) (OfficeCase n f d from (Took e))
    (λ below. cond_both (awaits_took from e d) (settle n f (acknowledge from d)) (refuse d 4) (OfficeCase n f d from (Took e))
    (λ so.
    let (on, rest) = and_parts d.busy (eqb e d.now.edition && not (d.acks from)) so in
    let (same, _) = and_parts (eqb e d.now.edition) (not (d.acks from)) rest in
    rw (eqb-true e d.now.edition same)
    (cond_both (quorum n f (count n (acknowledge from d).acks)) (quiet (close (acknowledge from d)) ended) (quiet (acknowledge from d) counted) (OfficeCase n f d from (Took d.now.edition))
    (took_ends (ltb-true from n below) on)
    (took_counts (ltb-true from n below) on)))
    (λ _. office_passes 4))
    (λ _. office_passes 1)
office_case n f d from (Ask r) = office_passes 1
office_case n f d from (Told r x) = office_passes 1

-- A READER begins a round
abbrev pub opening : (k left : ℕ) → ReaderDone → Reader → Step Reader ReaderDone
opening k left how q = record { next = in_round k left q; sends = Each (Ask q.next); outcome = Done how }

pub data RoundCase (k left : ℕ) (how : ReaderDone) (q : Reader) : Step Reader ReaderDone → Type 0 where
  round_opens : RoundCase k left how q (opening k left how q)
  round_refused : RoundCase k left how q (refuse q 5)

pub round_case : (k left : ℕ) (how : ReaderDone) (q : Reader) → RoundCase k left how q (begin_round k left how q)
round_case k left how q = cond_both (used_up q) (refuse q 5) (opening k left how q) (RoundCase k left how q) (λ _. round_refused) (λ _. round_opens)

-- it is time to ask again
pub data TickCase (n f : ℕ) (q : Reader) : Step Reader ReaderDone → Type 0 where
  tick_opens : q.busy ≡ true → decided n f q ≡ true → TickCase n f q (opening q.note (q.left - 1) retried q)
  tick_refused : TickCase n f q (refuse q 5)
  tick_again : q.busy ≡ true → TickCase n f q (ask_again q)
  tick_idle : TickCase n f q (quiet q no_reading)

pub tick_case : (n f : ℕ) (q : Reader) → TickCase n f q (reader_tick n f q)
tick_case n f q =
    cond_both q.busy (cond (decided n f q) next (ask_again q)) (quiet q no_reading) (TickCase n f q)
    (λ on. cond_both (decided n f q) next (ask_again q) (TickCase n f q)
    (λ full. cond_both (used_up q) (refuse q 5) (opening q.note (q.left - 1) retried q) (TickCase n f q) (λ _. tick_refused) (λ _. tick_opens on full))
    (λ _. tick_again on))
    (λ _. tick_idle)
  where
    next : Step Reader ReaderDone
    next = begin_round q.note (q.left - 1) retried q

-- its round is decided
pub data DecideCase (q : Reader) : Reading → Step Reader ReaderDone → Type 0 where
  decide_reads : (x : Note) → DecideCase q (Found x) (quiet (over q) (read x))
  decide_waits : 0 < q.left → DecideCase q Nothing (quiet q undecided)
  decide_doubts : q.left ≡ 0 → DecideCase q Nothing (quiet (over q) unsure)

pub decide_case : (q : Reader) (c : Reading) → DecideCase q c (decide q c)
decide_case q (Found x) = decide_reads x
decide_case q Nothing =
    cond_both (ltb 0 q.left) (quiet q undecided) (quiet (over q) unsure) (DecideCase q Nothing)
    (λ more. decide_waits (ltb-true 0 q.left more))
    (λ last. decide_doubts (omega (arith, ltb-false 0 q.left last)))

-- what it waits for when it waits
pub record Awaited (n f i k r : ℕ) (q : Reader) : Type 0 where
  pub busy : q.busy ≡ true
  pub note : k ≡ q.note
  pub round : r ≡ q.round
  pub new : q.replies.heard i ≡ false
  pub short : decided n f q ≡ false

pub awaited : (n f i k r : ℕ) (q : Reader) → awaits_told n f i k r q ≡ true → Awaited n f i k r q
awaited n f i k r q so =
    let (busy, rest) = and_parts q.busy (eqb k q.note && (eqb r q.round && (not (q.replies.heard i) && not (decided n f q)))) so in
    let (note, rest) = and_parts (eqb k q.note) (eqb r q.round && (not (q.replies.heard i) && not (decided n f q))) rest in
    let (round, rest) = and_parts (eqb r q.round) (not (q.replies.heard i) && not (decided n f q)) rest in
    let (new, short) = and_parts (not (q.replies.heard i)) (not (decided n f q)) rest in
    record { busy = busy; note = eqb-true k q.note note; round = eqb-true r q.round round; new = not-true (q.replies.heard i) new; short = not-true (decided n f q) short }

-- it hears a message
pub data ReaderCase (n f : ℕ) (q : Reader) (from k : ℕ) : Message → Step Reader ReaderDone → Type 0 where
  told_counts : (r : ℕ) (x : Note) → from < n → Awaited n f from k r q → decided n f (hear from x q) ≡ false → ReaderCase n f q from k (Told r x) (quiet (hear from x q) heard)
  told_decides : (r : ℕ) (x : Note) → from < n → Awaited n f from k r q → decided n f (hear from x q) ≡ true → ReaderCase n f q from k (Told r x) (decide (hear from x q) (pick n f (hear from x q).replies n))
  reader_passes : {m : Message} (e : ℕ) → ReaderCase n f q from k m (refuse q e)

pub reader_case : (n f : ℕ) (q : Reader) (from k : ℕ) (m : Message) → ReaderCase n f q from k m (reader_on n f q from k m)
reader_case n f q from k (Take x) = reader_passes 1
reader_case n f q from k (Took e) = reader_passes 1
reader_case n f q from k (Ask r) = reader_passes 1
reader_case n f q from k (Told r x) =
    cond_both (ltb from n) (told_on n f q from k r x) (refuse q 1) (ReaderCase n f q from k (Told r x))
    (λ below. cond_both (awaits_told n f from k r q) (settle_round n f (hear from x q)) (refuse q 3) (ReaderCase n f q from k (Told r x))
    (λ so. cond_both (decided n f (hear from x q)) (decide (hear from x q) (pick n f (hear from x q).replies n)) (quiet (hear from x q) heard) (ReaderCase n f q from k (Told r x))
    (told_decides r x (ltb-true from n below) (awaited n f from k r q so))
    (told_counts r x (ltb-true from n below) (awaited n f from k r q so)))
    (λ _. reader_passes 3))
    (λ _. reader_passes 1)
