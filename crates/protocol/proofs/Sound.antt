-- What each party keeps true by itself: a writing that has all it waits for is no longer under way, nor is a round that came to a note.
-- Assumes nothing.
use Rattle.std.proofs.Common.{◌≡◌, ℕ, ◌-◌, ◌<◌, true, false, List, refl, arith}
use Rattle.std.proofs.lemmas.Bool.{cond_both}
use Rattle.register.specs.Count.{count}
use Rattle.register.specs.Rule.{quorum, Reading, Nothing, pick}
use Rattle.register.proofs.Counting.{nobody}
use Rattle.protocol.specs.Message.{Message}
use Rattle.protocol.specs.Step.{Step, quiet}
use Rattle.protocol.specs.Office.{OfficeDone, no_writing, Desk, write_on, resend, office_tick, office_on}
use Rattle.protocol.specs.Reader.{ReaderDone, Reader, in_round, more_rounds, asked, read_on, decided, reader_tick, hear, over, reader_on}
use Rattle.protocol.proofs.PartyCases.{WriteCase, write_begins, write_refused, write_case, OfficeCase, took_counts, took_ends, office_passes, office_case, RoundCase, round_opens, round_refused, round_case, TickCase, tick_opens, tick_refused, tick_again, tick_idle, tick_case, DecideCase, decide_reads, decide_waits, decide_doubts, decide_case, ReaderCase, told_counts, told_decides, reader_passes, reader_case}

-- a writing under way waits for more wardens
abbrev pub SoundDesk : (n f : ℕ) → Desk → Type 0
SoundDesk n f d = d.busy ≡ true → quorum n f (count n d.acks) ≡ false

-- of a reader that is reading: its round has a number below the next; and if the round is decided, it read nothing, and another may begin
pub record SoundReader (n f : ℕ) (q : Reader) : Type 0 where
  pub begun : q.busy ≡ true → q.round < q.next
  pub nothing : q.busy ≡ true → decided n f q ≡ true → pick n f q.replies n ≡ Nothing
  pub more : q.busy ≡ true → decided n f q ≡ true → 0 < q.left

module _ (n f : ℕ) (some : f < n) where
  -- nobody is not enough
  pub too_few : quorum n f (count n (λ i. false)) ≡ false
  too_few = let none = nobody n in grind arith

  pub sound_write : (d : Desk) (v : List ℕ) → SoundDesk n f d → SoundDesk n f (write_on d v).next
  sound_write d v h = go (write_case d v)
    where
      go : {o : Step Desk OfficeDone} → WriteCase d v o → SoundDesk n f o.next
      go (write_begins idle low) = λ _. too_few
      go write_refused = h

  pub sound_office_tick : (d : Desk) → SoundDesk n f d → SoundDesk n f (office_tick d).next
  sound_office_tick d h = cond_both d.busy (resend d) (quiet d no_writing) (λ (o : Step Desk OfficeDone). SoundDesk n f o.next) (λ _. h) (λ _. h)

  pub sound_office : (d : Desk) (from : ℕ) (m : Message) → SoundDesk n f d → SoundDesk n f (office_on n f d from m).next
  sound_office d from m h = go (office_case n f d from m)
    where
      go : {m : Message} {o : Step Desk OfficeDone} → OfficeCase n f d from m o → SoundDesk n f o.next
      go (took_counts below on short) = λ _. short
      go (took_ends below on all) = λ busy. cc
      go (office_passes e) = h

  -- who does not read is sound
  pub sound_idle : (q : Reader) → q.busy ≡ false → SoundReader n f q
  sound_idle q idle = record { begun = λ busy. cc; nothing = λ busy. cc; more = λ busy. cc }

  -- and so is who has just begun a round
  sound_round : (k left : ℕ) (q : Reader) → SoundReader n f (in_round k left q)
  sound_round k left q =
      record { begun = λ _. omega arith; nothing = λ _ so. cc too_few; more = λ _ so. cc too_few }

  pub sound_read : (q : Reader) (k : ℕ) → SoundReader n f q → SoundReader n f (read_on q k).next
  sound_read q k h = go (round_case k more_rounds asked q)
    where
      go : {o : Step Reader ReaderDone} → RoundCase k more_rounds asked q o → SoundReader n f o.next
      go round_opens = sound_round k more_rounds q
      go round_refused = h

  pub sound_reader_tick : (q : Reader) → SoundReader n f q → SoundReader n f (reader_tick n f q).next
  sound_reader_tick q h = go (tick_case n f q)
    where
      go : {o : Step Reader ReaderDone} → TickCase n f q o → SoundReader n f o.next
      go (tick_opens busy full) = sound_round q.note (q.left - 1) q
      go tick_refused = h
      go (tick_again busy) = h
      go tick_idle = h

  sound_decide : (q : Reader) → (q.busy ≡ true → q.round < q.next) → {c : Reading} {o : Step Reader ReaderDone} → DecideCase q c o → pick n f q.replies n ≡ c → SoundReader n f o.next
  sound_decide q begun (decide_reads x) is = sound_idle (over q) refl
  sound_decide q begun (decide_waits more) is = record { begun = begun; nothing = λ _ _. is; more = λ _ _. more }
  sound_decide q begun (decide_doubts last) is = sound_idle (over q) refl

  pub sound_reader : (q : Reader) (from k : ℕ) (m : Message) → SoundReader n f q → SoundReader n f (reader_on n f q from k m).next
  sound_reader q from k m h = go (reader_case n f q from k m)
    where
      go : {m : Message} {o : Step Reader ReaderDone} → ReaderCase n f q from k m o → SoundReader n f o.next
      go (told_counts r x below due short) = record { begun = h.begun; nothing = λ _ so. cc; more = λ _ so. cc }
      go (told_decides r x below due full) = sound_decide (hear from x q) h.begun (decide_case (hear from x q) (pick n f (hear from x q).replies n)) refl
      go (reader_passes e) = h
