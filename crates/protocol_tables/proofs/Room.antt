-- A warden has no notes but those that the office has, so it always has room.
-- Assumes nothing.
use Rattle.std.proofs.Common.{◌≡◌, ℕ, ◌≤◌, Bool, true, false, cond, ◌⊎◌, List, [], ◌∷◌, ◌++◌, map, sym, refl, ap, ◌∙◌, inl, inr, ⊎_elim, arith}
use mathlib.Core.List.Memᴰ
use mathlib.Core.List.{Memᴰ}
use borrow.Author.Tests.{clash}
use Rattle.std.proofs.lemmas.Bool.{cond_both, cases_Bool, eq-eqb, lt-ltb}
use Rattle.register.specs.Count.{put}
use Rattle.register.specs.Note.{Note, none}
use Rattle.register.specs.Rule.{Reading, pick}
use Rattle.register.proofs.Put.{put_all, put_both, put_stay}
use Rattle.protocol.specs.Message.{office, Message, Take, Took, Ask, Told, Packet, Sends, One, Each, packets}
use Rattle.protocol.specs.Message as words
use Rattle.protocol.specs.Step.{Step, Refused}
use Rattle.protocol.specs.Warden.{WardenDone}
use Rattle.protocol.specs.Office.{OfficeDone, Desk, empty_desk, begin_writing, acknowledge, close, office_on}
use Rattle.protocol.specs.Reader.{ReaderDone, asked, Reader, more_rounds, begin_round, read_on, reader_tick, hear, reader_on}
use Rattle.protocol.specs.Log as L
use Rattle.protocol.proofs.Packets.{of_each}
use Rattle.protocol.proofs.PartyCases.{OfficeCase, took_counts, took_ends, office_passes, office_case, RoundCase, round_opens, round_refused, round_case, TickCase, tick_opens, tick_refused, tick_again, tick_idle, tick_case, DecideCase, decide_reads, decide_waits, decide_doubts, decide_case, ReaderCase, told_counts, told_decides, reader_passes, reader_case}
use Rattle.protocol_tables.specs.Keep.{most, Keep, empty, room, store}
use Rattle.protocol_tables.specs.Warden.{warden_keeps}
use Rattle.protocol_tables.specs.Office.{Office, Letter, OfficeStep, post, leave, without, counts, ends, office_writes, keep_counting, office_hears, again, office_ticks}
use Rattle.protocol_tables.specs.System.{System, Move, writes, office_tick, office_hear, warden_hear, reads, reader_ticks, reader_hears, office_restarts, reader_restarts, lies, loses, Run, begin, then}
use Rattle.protocol_tables.specs.System as T
use Rattle.protocol_tables.specs.Progress.{NeverFull}
use Rattle.protocol_tables.proofs.TableCases.{KeepCase, keep_takes, keep_full, keep_had, keep_answers, keep_passes, keep_case, Written, begins_it, refuses, written}
use Rattle.protocol_tables.proofs.Refines.{run_kept}
use Rattle.protocol_tables.proofs.Numbers.{Counted, empty_counted, store_counted, fewer}

-- THE OFFICE
pub record OfficeFits (o : Office) : Type 0 where
  pub counted : Counted o.desks
  pub few : o.desks.many ≤ most
  pub busy : (k : ℕ) → (o.desks.at k).busy ≡ true → o.desks.had k ≡ true

-- a step of the office: it still fits, and has what it had
pub record OfficeGoes (o p : Office) : Type 0 where
  pub fits : OfficeFits p
  pub grows : (k : ℕ) → o.desks.had k ≡ true → p.desks.had k ≡ true

stays : {o : Office} → OfficeFits o → OfficeGoes o o
stays h = record { fits = h; grows = λ k e. e }

storing : {o : Office} → OfficeFits o → (k : ℕ) (d : Desk) (ks : List ℕ) → room k o.desks ≡ true → OfficeGoes o (record { desks = store k d o.desks; under_way = ks })
storing {o} h k d ks roomy =
    record {
      fits = record {
        counted = store_counted h.counted k d;
        few = let old = h.few in grind arith;
        busy = put_both (λ _ (c : Desk) b. c.busy ≡ true → b ≡ true) k d true o.desks.at o.desks.had (λ _. refl) h.busy;
      };
      grows = put_stay k o.desks.had;
    }

pub write_goes : {o : Office} → OfficeFits o → (k : ℕ) (v : List ℕ) → OfficeGoes o (office_writes o k v).next
write_goes {o} h k v = go (written o k v)
  where
    go : {s : OfficeStep} → Written o k v s → OfficeGoes o s.next
    go (begins_it ready) = storing h k (begin_writing (o.desks.at k) v).next (o.under_way ++ (k ∷ [])) ready.roomy
    go (refuses m) = stays h

pub hear_goes : {o : Office} → OfficeFits o → (n f from k : ℕ) (m : Message) → OfficeGoes o (office_hears n f o from k m).next
hear_goes {o} h n f from k m = go (office_case n f d from m)
  where
    d : Desk
    d = o.desks.at k

    go : {m : Message} {st : Step Desk OfficeDone} → OfficeCase n f d from m st → OfficeGoes o (keep_counting o k st).next
    go (took_counts below on short) = storing h k (acknowledge from d) o.under_way (rw (h.busy k on))
    go (took_ends below on all) = storing h k (close (acknowledge from d)) (without k o.under_way) (rw (h.busy k on))
    go (office_passes e) = stays h

-- WHAT IS SENT
-- it asks to take a note
abbrev pub brings : Message → Bool
brings (Take x) = true
brings (Took e) = false
brings (Ask r) = false
brings (Told r x) = false

-- nothing of it does
abbrev pub Plain : Sends → Type 0
Plain words.Nothing = Unit {0}
Plain (One to m) = brings m ≡ false
Plain (Each m) = brings m ≡ false

pub plain_sends : (n from k : ℕ) (sends : Sends) → Plain sends → (p : Packet) → Memᴰ p (packets n from k sends) → brings p.message ≡ true → ⊥
plain_sends n from k words.Nothing so p m e = Memᴰ.not-nil m
plain_sends n from k (One to x) so p m e = clash (sym so ∙ (rw (Memᴰ.eq_of_singleton m) at e))
plain_sends n from k (Each x) so p m e = let (i, l, is) = of_each n (λ i. record { from = from; to = i; note = k; message = x }) p m in clash (sym so ∙ (rw is at e))

pub warden_plain : (d : Keep Note) (from k : ℕ) (m : Message) → Plain (warden_keeps d from k m).sends
warden_plain d from k m = go (keep_case d from k m)
  where
    go : {m : Message} {o : Step (Keep Note) WardenDone} → KeepCase d from k m o → Plain o.sends
    go (keep_takes x own late roomy) = refl
    go (keep_full x own full) = tt
    go (keep_had x) = refl
    go (keep_answers r) = refl
    go keep_passes = tt

-- a reader sends nothing, or asks each warden
abbrev pub Asks : Sends → Type 0
Asks words.Nothing = Unit {0}
Asks (One to m) = ⊥
Asks (Each m) = (r : ℕ) × (m ≡ Ask r)

pub asks_plain : (sends : Sends) → Asks sends → Plain sends
asks_plain words.Nothing so = tt
asks_plain (One to m) so = absurd so
asks_plain (Each m) (r, is) = rw is

pub round_asks : (k left : ℕ) (how : ReaderDone) (q : Reader) → Asks (begin_round k left how q).sends
round_asks k left how q = go (round_case k left how q)
  where
    go : {o : Step Reader ReaderDone} → RoundCase k left how q o → Asks o.sends
    go round_opens = (q.next, refl)
    go round_refused = tt

pub tick_asks : (n f : ℕ) (q : Reader) → Asks (reader_tick n f q).sends
tick_asks n f q = go (tick_case n f q)
  where
    go : {o : Step Reader ReaderDone} → TickCase n f q o → Asks o.sends
    go (tick_opens busy full) = (q.next, refl)
    go tick_refused = tt
    go (tick_again busy) = (q.round, refl)
    go tick_idle = tt

decide_asks : {q : Reader} {c : Reading} {o : Step Reader ReaderDone} → DecideCase q c o → Asks o.sends
decide_asks (decide_reads x) = tt
decide_asks (decide_waits more) = tt
decide_asks (decide_doubts last) = tt

pub reader_asks : (n f : ℕ) (q : Reader) (from k : ℕ) (m : Message) → Asks (reader_on n f q from k m).sends
reader_asks n f q from k m = go (reader_case n f q from k m)
  where
    go : {m : Message} {o : Step Reader ReaderDone} → ReaderCase n f q from k m o → Asks o.sends
    go (told_counts r x below due short) = tt
    go (told_decides r x below due full) = decide_asks (decide_case (hear from x q) (pick n f (hear from x q).replies n))
    go (reader_passes e) = tt

round_plain : (k left : ℕ) (how : ReaderDone) (q : Reader) → Plain (begin_round k left how q).sends
round_plain k left how q = asks_plain (begin_round k left how q).sends (round_asks k left how q)

tick_plain : (n f : ℕ) (q : Reader) → Plain (reader_tick n f q).sends
tick_plain n f q = asks_plain (reader_tick n f q).sends (tick_asks n f q)

reader_plain : (n f : ℕ) (q : Reader) (from k : ℕ) (m : Message) → Plain (reader_on n f q from k m).sends
reader_plain n f q from k m = asks_plain (reader_on n f q from k m).sends (reader_asks n f q from k m)

-- of letters on their way
pub of_post : (n : ℕ) (ls : List Letter) (bag : List Packet) (p : Packet) → Memᴰ p (post n ls bag) → Memᴰ p bag ⊎ ((l : Letter) × Memᴰ l ls × Memᴰ p (packets n office l.note l.sends))
of_post n [] bag p m = inl m
of_post n (l ∷ ls) bag p m =
    ⊎_elim
    (λ m. ⊎_elim (λ m. inr (l, Memᴰ.head refl, m)) inl (Memᴰ.append_cases (packets n office l.note l.sends) m))
    (λ (l', at, m). inr (l', Memᴰ.tail at, m))
    (of_post n ls (packets n office l.note l.sends ++ bag) p m)

note_of_packet : (n k : ℕ) (m : Message) (p : Packet) → Memᴰ p (packets n office k (Each m)) → p.note ≡ k
note_of_packet n k m p at = let (i, l, is) = of_each n (λ i. record { from = office; to = i; note = k; message = m }) p at in ap (λ (p : Packet). p.note) is

-- ALL TOGETHER
pub record Fits (s : System) : Type 0 where
  pub office_fits : OfficeFits s.office
  pub notes : (i : ℕ) → Counted (s.warden i)
  pub within : (i k : ℕ) → (s.warden i).had k ≡ true → s.office.desks.had k ≡ true
  pub posted : (p : Packet) → Memᴰ p s.bag → brings p.message ≡ true → p.from ≡ office → s.office.desks.had p.note ≡ true

-- the office has made a step
by_office_fits : {s : System} (n : ℕ) (o : OfficeStep) (log : L.Log) → OfficeGoes s.office o.next → ((l : Letter) → Memᴰ l o.letters → (p : Packet) → Memᴰ p (packets n office l.note l.sends) → o.next.desks.had p.note ≡ true) → Fits s → Fits (record { office = o.next; warden = s.warden; reader = s.reader; bag = post n o.letters s.bag; log = log })
by_office_fits {s} n o log goes sent h =
    record {
      office_fits = goes.fits;
      notes = h.notes;
      within = λ i k e. goes.grows k (h.within i k e);
      posted = λ p m so from. ⊎_elim (λ m. goes.grows p.note (h.posted p m so from)) (λ (l, at, m). sent l at p m) (of_post n o.letters s.bag p m);
    }

-- something is sent that brings no note
also_fits : {s : System} (reader : ℕ → Reader) (ps : List Packet) (log : L.Log) → ((p : Packet) → Memᴰ p ps → brings p.message ≡ true → p.from ≡ office → ⊥) → Fits s → Fits (record { office = s.office; warden = s.warden; reader = reader; bag = ps ++ s.bag; log = log })
also_fits reader ps log plain h =
    record { office_fits = h.office_fits; notes = h.notes; within = h.within; posted = λ p m so from. ⊎_elim (λ m. absurd (plain p m so from)) (λ m. h.posted p m so from) (Memᴰ.append_cases ps m) }

-- a warden has something else
warden_fits : {s : System} (i : ℕ) (d : Keep Note) (ps : List Packet) (log : L.Log) → Counted d → ((k : ℕ) → d.had k ≡ true → s.office.desks.had k ≡ true) → ((p : Packet) → Memᴰ p ps → brings p.message ≡ true → ⊥) → Fits s → Fits (record { office = s.office; warden = put i d s.warden; reader = s.reader; bag = ps ++ s.bag; log = log })
warden_fits {s} i d ps log count_of within plain h =
    record {
      office_fits = h.office_fits;
      notes = put_all (λ _ d. Counted d) i d s.warden count_of h.notes;
      within = put_all (λ _ (d : Keep Note). (k : ℕ) → d.had k ≡ true → s.office.desks.had k ≡ true) i d s.warden within h.within;
      posted = λ p m so from. ⊎_elim (λ m. absurd (plain p m so)) (λ m. h.posted p m so from) (Memᴰ.append_cases ps m);
    }

-- what a warden has after a message: what it had, and the note that it took, which the office has
abbrev Had : System → Keep Note → Type 0
Had s d = Counted d × ((k : ℕ) → d.had k ≡ true → s.office.desks.had k ≡ true)

keeps : (s : System) (i from k : ℕ) (m : Message) → Fits s → (brings m ≡ true → from ≡ office → s.office.desks.had k ≡ true) → Had s (warden_keeps (s.warden i) from k m).next
keeps s i from k m h = go (keep_case d from k m)
  where
    d : Keep Note
    d = s.warden i

    same : Had s d
    same = (h.notes i, h.within i)

    go : {m : Message} {o : Step (Keep Note) WardenDone} → KeepCase d from k m o → (brings m ≡ true → from ≡ office → s.office.desks.had k ≡ true) → Had s o.next
    go (keep_takes x own late roomy) known = (store_counted (h.notes i) k x, put_all (λ z b. b ≡ true → s.office.desks.had z ≡ true) k true d.had (λ _. known refl own) (h.within i))
    go (keep_full x own full) known = same
    go (keep_had x) known = same
    go (keep_answers r) known = same
    go keep_passes known = same

written_had : (s : System) (n k : ℕ) (v : List ℕ) → (l : Letter) → Memᴰ l (office_writes s.office k v).letters → (p : Packet) → Memᴰ p (packets n office l.note l.sends) → (office_writes s.office k v).next.desks.had p.note ≡ true
written_had s n k v = go (written s.office k v)
  where
    Has : OfficeStep → Type 0
    Has o = (l : Letter) → Memᴰ l o.letters → (p : Packet) → Memᴰ p (packets n office l.note l.sends) → o.next.desks.had p.note ≡ true

    go : {o : OfficeStep} → Written s.office k v o → Has o
    go (begins_it ready) = λ l m p at. rw (eq-eqb p.note k (note_of_packet n k (Take (begin_writing (s.office.desks.at k) v).next.now) p (rw (Memᴰ.eq_of_singleton m) at at)))
    go (refuses e) = λ l m. absurd (Memᴰ.not-nil m)

-- when something comes to the office, it sends nothing
pub no_letters : (o : Office) (k : ℕ) (st : Step Desk OfficeDone) → (keep_counting o k st).letters ≡ []
no_letters o k st =
    cond_both (counts st.outcome) (record { next = record { desks = store k st.next o.desks; under_way = cond (ends st.outcome) (without k o.under_way) o.under_way }; letters = []; outcome = st.outcome }) (leave o st.outcome) (λ (s : OfficeStep). s.letters ≡ [])
    (λ _. refl)
    (λ _. refl)

module _ (n f : ℕ) (liar : ℕ → Bool) where
  reader_fits : (s : System) (j : ℕ) (o : Step Reader ReaderDone) → Plain o.sends → Fits s → Fits (T.by_reader n j o s)
  reader_fits s j o plain h = also_fits (put j o.next s.reader) (packets n j o.next.note o.sends) (T.by_reader n j o s).log (λ p m so _. plain_sends n j o.next.note o.sends plain p m so) h

  fits_by : {s t : System} → Move n f liar s t → Run n f liar s → Fits s → Fits t
  fits_by {s} (writes k v) run h = by_office_fits n (office_writes s.office k v) (T.by_office n k (office_writes s.office k v) s).log (write_goes h.office_fits k v) (written_had s n k v) h
  fits_by {s} office_tick run h = by_office_fits n (office_ticks s.office) s.log (stays h.office_fits) sent h
    where
      sent : (l : Letter) → Memᴰ l (map (again s.office.desks) s.office.under_way) → (p : Packet) → Memᴰ p (packets n office l.note l.sends) → s.office.desks.had p.note ≡ true
      sent l m p at =
          let (k, listed, is) = Memᴰ.of_map (again s.office.desks) s.office.under_way m in
          rw (note_of_packet n k (Take (s.office.desks.at k).now) p (rw (← is) at at)) (h.office_fits.busy k ((run_kept n f liar run).order.busy k listed))
  fits_by {s} (office_hear p m to) run h =
      by_office_fits n (office_hears n f s.office p.from p.note p.message) (T.by_office n p.note (office_hears n f s.office p.from p.note p.message) s).log (hear_goes h.office_fits n f p.from p.note p.message) (λ l at. absurd (Memᴰ.not-nil (rw (no_letters s.office p.note (office_on n f (s.office.desks.at p.note) p.from p.message)) at at))) h
  fits_by {s} (warden_hear i p l honest m to) run h =
      let (count_of, within) = keeps s i p.from p.note p.message h (h.posted p m) in
      warden_fits i (warden_keeps (s.warden i) p.from p.note p.message).next (packets n i p.note (warden_keeps (s.warden i) p.from p.note p.message).sends) (T.by_warden n i p.note (warden_keeps (s.warden i) p.from p.note p.message) s).log count_of within (plain_sends n i p.note (warden_keeps (s.warden i) p.from p.note p.message).sends (warden_plain (s.warden i) p.from p.note p.message)) h
  fits_by {s} (reads j k fair) run h = reader_fits s j (read_on (s.reader j) k) (round_plain k more_rounds asked (s.reader j)) h
  fits_by {s} (reader_ticks j fair) run h = reader_fits s j (reader_tick n f (s.reader j)) (tick_plain n f (s.reader j)) h
  fits_by {s} (reader_hears j p fair m to) run h = reader_fits s j (reader_on n f (s.reader j) p.from p.note p.message) (reader_plain n f (s.reader j) p.from p.note p.message) h
  fits_by office_restarts run h =
      let c = h.office_fits.counted in
      record { office_fits = record { counted = record { numbers = c.numbers; once = c.once; had = c.had; many = c.many }; few = h.office_fits.few; busy = h.office_fits.busy }; notes = h.notes; within = h.within; posted = h.posted }
  fits_by {s} (reader_restarts j first up) run h = record { office_fits = h.office_fits; notes = h.notes; within = h.within; posted = h.posted }
  fits_by {s} (lies p so other) run h = also_fits s.reader (p ∷ []) s.log (λ p' m _ from. other (rw (Memᴰ.eq_of_singleton m) at from)) h
  fits_by {s} (loses i) run h = warden_fits i (empty none) [] (L.Lost i ∷ s.log) (empty_counted none) (λ k e. cc) (λ p m so. Memᴰ.not-nil m) h

  pub run_fits : {s : System} → Run n f liar s → Fits s
  run_fits begin =
      record {
        office_fits = record { counted = empty_counted empty_desk; few = omega arith; busy = λ k e. cc };
        notes = λ i. empty_counted none;
        within = λ i k e. cc;
        posted = λ p m. absurd (Memᴰ.not-nil m);
      }
  run_fits (then before m) = fits_by m before (run_fits before)

-- so there is room for what the office sent
pub roomy : (s : System) (i k : ℕ) → Fits s → s.office.desks.had k ≡ true → room k (s.warden i) ≡ true
roomy s i k h has =
    ⊎_elim
    (λ (had : (s.warden i).had k ≡ true). rw had)
    (λ (lacks : (s.warden i).had k ≡ false). rw (lacks, lt-ltb (s.warden i).many most (omega (arith, fewer (h.notes i) h.office_fits.counted (h.within i) k has lacks, h.office_fits.few))))
    (cases_Bool ((s.warden i).had k))

pub never_full : NeverFull
never_full n f liar s run i p m = go (keep_case (s.warden i) p.from p.note p.message) (h.posted p m)
  where
    h : Fits s
    h = run_fits n f liar run

    go : {m : Message} {o : Step (Keep Note) WardenDone} → KeepCase (s.warden i) p.from p.note m o → (brings m ≡ true → p.from ≡ office → s.office.desks.had p.note ≡ true) → o.outcome ≡ Refused 6 → ⊥
    go (keep_takes x own late roomy) known e = cc
    go (keep_full x own full) known e = cc (roomy s i p.note h (known refl own))
    go (keep_had x) known e = cc
    go (keep_answers r) known e = cc
    go keep_passes known e = cc
