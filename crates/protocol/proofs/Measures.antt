-- How many of the honest are missing.
-- Assumes nothing.
use Rattle.std.proofs.Common.{◌≡◌, ℕ, ◌<◌, ◌≤◌, Bool, true, false, ltb, List, sym, refl, ap, ◌∙◌, subst, arith}
use Rattle.std.proofs.lemmas.Bool.{cond_both, cond-true, eq-eqb, lt-ltb}
use Rattle.register.specs.Count.{count, put}
use Rattle.register.specs.Note.{Note}
use Rattle.register.specs.Rule.{Replies, quorum, Reading, pick}
use Rattle.register.specs.Progress.{missing}
use Rattle.register.proofs.Put.{put_all, put_stay}
use Rattle.register.proofs.Moves.{stay, fall, enough}
use Rattle.protocol.specs.Message.{Message, Took, Told}
use Rattle.protocol.specs.Step.{Step, quiet, refuse}
use Rattle.protocol.specs.Office.{OfficeDone, no_writing, counted, ended, Desk, write_on, resend, office_tick, acknowledge, close, settle, awaits_took, took_on, office_on}
use Rattle.protocol.specs.Reader.{ReaderDone, asked, heard, Reader, more_rounds, read_on, decided, reader_tick, awaits_told, hear, decide, settle_round, told_on, reader_on}
use Rattle.protocol.specs.System.{System, Move, writes, office_ticks, office_hears, warden_hears, reads, reader_ticks, reader_hears, office_restarts, reader_restarts, lies, loses}
use Rattle.protocol.specs.Progress.{restarts, unwritten, unheard, Measured}
use Rattle.protocol.proofs.PartyCases.{WriteCase, write_begins, write_refused, write_case, OfficeCase, took_counts, took_ends, office_passes, office_case, RoundCase, round_opens, round_refused, round_case, TickCase, tick_opens, tick_refused, tick_again, tick_idle, tick_case, awaited, ReaderCase, told_counts, told_decides, reader_passes, reader_case}
use Rattle.protocol.proofs.Rounds.{same}

module _ (n f : ℕ) (liar : ℕ → Bool) where
  more : (i : ℕ) (known : ℕ → Bool) → missing n liar (put i true known) ≤ missing n liar known
  more i known = stay n liar known (put i true known) (put_stay i known)

  -- THE OFFICE
  abbrev DeskStays : Desk → Desk → Type 0
  DeskStays d d' = d'.now.edition ≡ d.now.edition → missing n liar d'.acks ≤ missing n liar d.acks

  settle_acks : (d : Desk) → (settle n f d).next.acks ≡ d.acks
  settle_acks d = cond_both (quorum n f (count n d.acks)) (quiet (close d) ended) (quiet d counted) (λ (o : Step Desk OfficeDone). o.next.acks ≡ d.acks) (λ _. refl) (λ _. refl)

  took_acks : (i : ℕ) (d : Desk) → i < n → d.busy ≡ true → d.acks i ≡ false → (office_on n f d i (Took d.now.edition)).next.acks ≡ put i true d.acks
  took_acks i d l busy new =
      ap (λ (o : Step Desk OfficeDone). o.next.acks)
      (cond-true (ltb i n) (took_on n f d i d.now.edition) (refuse d 1) (lt-ltb i n l) ∙ cond-true (awaits_took i d.now.edition d) (settle n f (acknowledge i d)) (refuse d 4) (rw (busy, eq-eqb d.now.edition d.now.edition refl, new))) ∙ settle_acks (acknowledge i d)

  write_stays : (d : Desk) (v : List ℕ) → DeskStays d (write_on d v).next
  write_stays d v = go (write_case d v)
    where
      go : {o : Step Desk OfficeDone} → WriteCase d v o → DeskStays d o.next
      go (write_begins idle low) is = absurd (omega arith)
      go write_refused is = omega arith

  desk_tick_stays : (d : Desk) → DeskStays d (office_tick d).next
  desk_tick_stays d = cond_both d.busy (resend d) (quiet d no_writing) (λ (o : Step Desk OfficeDone). DeskStays d o.next) (λ _ _. omega arith) (λ _ _. omega arith)

  desk_stays : (d : Desk) (from : ℕ) (m : Message) → DeskStays d (office_on n f d from m).next
  desk_stays d from m = go (office_case n f d from m)
    where
      go : {m : Message} {o : Step Desk OfficeDone} → OfficeCase n f d from m o → DeskStays d o.next
      go (took_counts below on short) is = more from d.acks
      go (took_ends below on all) is = more from d.acks
      go (office_passes e) is = omega arith

  -- A READER
  abbrev ReaderStays : Reader → Reader → Type 0
  ReaderStays q q' = q'.next ≡ q.next → missing n liar q'.replies.heard ≤ missing n liar q.replies.heard

  settle_heard : (q : Reader) → (settle_round n f q).next.replies ≡ q.replies
  settle_heard q =
      cond_both (decided n f q) (decide q c) (quiet q heard) (λ (o : Step Reader ReaderDone). o.next.replies ≡ q.replies)
      (λ _. (same q c).replies)
      (λ _. refl)
    where
      c : Reading
      c = pick n f q.replies n

  told_replies : (i k r : ℕ) (x : Note) (q : Reader) → i < n → awaits_told n f i k r q ≡ true → (reader_on n f q i k (Told r x)).next.replies ≡ (hear i x q).replies
  told_replies i k r x q l so =
      ap (λ (o : Step Reader ReaderDone). o.next.replies)
      (cond-true (ltb i n) (told_on n f q i k r x) (refuse q 1) (lt-ltb i n l) ∙ cond-true (awaits_told n f i k r q) (settle_round n f (hear i x q)) (refuse q 3) so) ∙ settle_heard (hear i x q)

  read_stays : (q : Reader) (k : ℕ) → ReaderStays q (read_on q k).next
  read_stays q k = go (round_case k more_rounds asked q)
    where
      go : {o : Step Reader ReaderDone} → RoundCase k more_rounds asked q o → ReaderStays q o.next
      go round_opens is = absurd (omega arith)
      go round_refused is = omega arith

  reader_tick_stays : (q : Reader) → ReaderStays q (reader_tick n f q).next
  reader_tick_stays q = go (tick_case n f q)
    where
      go : {o : Step Reader ReaderDone} → TickCase n f q o → ReaderStays q o.next
      go (tick_opens busy full) is = absurd (omega arith)
      go tick_refused is = omega arith
      go (tick_again busy) is = omega arith
      go tick_idle is = omega arith

  reader_stays : (q : Reader) (from k : ℕ) (m : Message) → ReaderStays q (reader_on n f q from k m).next
  reader_stays q from k m = go (reader_case n f q from k m)
    where
      go : {m : Message} {o : Step Reader ReaderDone} → ReaderCase n f q from k m o → ReaderStays q o.next
      go (told_counts r x below due short) is = more from q.replies.heard
      go (told_decides r x below due full) is = rw (same (hear from x q) (pick n f (hear from x q).replies n)).replies (more from q.replies.heard)
      go (reader_passes e) is = omega arith

  -- ANY MOVE
  writing_stays : {s t : System} (m : Move n f liar s t) → restarts m ≡ false → (k : ℕ) → DeskStays (s.office k) (t.office k)
  writing_stays {s} (writes k' v) so k = put_all (λ k d. DeskStays (s.office k) d) k' (write_on (s.office k') v).next s.office (write_stays (s.office k') v) (λ k _. omega arith) k
  writing_stays {s} (office_ticks k') so k = put_all (λ k d. DeskStays (s.office k) d) k' (office_tick (s.office k')).next s.office (desk_tick_stays (s.office k')) (λ k _. omega arith) k
  writing_stays {s} (office_hears p m to) so k = put_all (λ k d. DeskStays (s.office k) d) p.note (office_on n f (s.office p.note) p.from p.message).next s.office (desk_stays (s.office p.note) p.from p.message) (λ k _. omega arith) k
  writing_stays (warden_hears i p l fair m to) so k = λ _. omega arith
  writing_stays (reads j k' fair) so k = λ _. omega arith
  writing_stays (reader_ticks j fair) so k = λ _. omega arith
  writing_stays (reader_hears j p fair m to) so k = λ _. omega arith
  writing_stays office_restarts so k = cc
  writing_stays (reader_restarts j first up) so k = λ _. omega arith
  writing_stays (lies p so' other) so k = λ _. omega arith
  writing_stays (loses i) so k = λ _. omega arith

  round_stays : {s t : System} (m : Move n f liar s t) → restarts m ≡ false → (j : ℕ) → ReaderStays (s.reader j) (t.reader j)
  round_stays (writes k v) so j = λ _. omega arith
  round_stays (office_ticks k) so j = λ _. omega arith
  round_stays (office_hears p m to) so j = λ _. omega arith
  round_stays (warden_hears i p l fair m to) so j = λ _. omega arith
  round_stays {s} (reads j' k fair) so j = put_all (λ j q. ReaderStays (s.reader j) q) j' (read_on (s.reader j') k).next s.reader (read_stays (s.reader j') k) (λ j _. omega arith) j
  round_stays {s} (reader_ticks j' fair) so j = put_all (λ j q. ReaderStays (s.reader j) q) j' (reader_tick n f (s.reader j')).next s.reader (reader_tick_stays (s.reader j')) (λ j _. omega arith) j
  round_stays {s} (reader_hears j' p fair m to) so j = put_all (λ j q. ReaderStays (s.reader j) q) j' (reader_on n f (s.reader j') p.from p.note p.message).next s.reader (reader_stays (s.reader j') p.from p.note p.message) (λ j _. omega arith) j
  round_stays office_restarts so j = λ _. omega arith
  round_stays (reader_restarts j' first up) so j = cc
  round_stays (lies p so' other) so j = λ _. omega arith
  round_stays (loses i) so j = λ _. omega arith

pub measured : Measured
measured n f liar s =
    record {
      writing_stays = λ t m so k. writing_stays n f liar m so k;
      round_stays = λ t m so j. round_stays n f liar m so j;
      writing_falls = λ k i l honest busy new. subst (λ (known : ℕ → Bool). missing n liar known < unwritten n liar k s) (sym (took_acks n f liar i (s.office k) l busy new)) (fall n liar (s.office k).acks i l honest new);
      round_falls = λ j i k r x l honest so. subst (λ (p : Replies). missing n liar p.heard < unheard n liar j s) (sym (told_replies n f liar i k r x (s.reader j) l so)) (fall n liar (s.reader j).replies.heard i l honest (awaited n f i k r (s.reader j) so).new);
      writing_enough = λ few k none. omega (arith, enough n liar (s.office k).acks);
      round_enough = λ few j none. omega (arith, enough n liar (s.reader j).replies.heard);
    }
