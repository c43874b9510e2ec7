-- Without files: a warden has of each note what the log says that it has, and an honest one tells nothing else.
-- Assumes nothing.
use Rattle.std.proofs.Common.{◌≡◌, ℕ, ◌<◌, ◌≤◌, max, Bool, false, ◌⊎◌, List, [], ◌∷◌, ◌++◌, map, sym, refl, ap, ◌∙◌, subst, inl, inr, ⊎_elim, arith}
use mathlib.Core.List.Memᴰ
use mathlib.Core.List.{Memᴰ}
use Rattle.std.proofs.lemmas.Bool.{both_ways, cases_eq, cases_lt, eq-eqb, ne_eqb}
use Rattle.register.specs.Count.{put}
use Rattle.register.specs.Note.{Note, none}
use Rattle.register.proofs.Put.{put_same, put_own}
use Rattle.protocol.specs.Message.{office, Message, Take, Took, Told, Packet, Sends, One, Each, packets}
use Rattle.protocol.specs.Message as words
use Rattle.protocol.specs.Step.{Outcome, Done, Refused, Step}
use Rattle.protocol.specs.Warden.{WardenDone}
use Rattle.protocol.specs.Office.{OfficeDone, Desk, begin_writing}
use Rattle.protocol.specs.Reader.{asked, asked_again, retried, no_reading, heard, undecided, read, unsure, more_rounds, ReaderDone, Reader, read_on, reader_tick, reader_on}
use Rattle.protocol.specs.Log.{Event, Log, Lost, held, took}
use Rattle.protocol.specs.Log as events
use Rattle.protocol.specs.System.{warden_event, reader_event}
use Rattle.protocol.proofs.Packets.{of_each}
use Rattle.protocol.proofs.PartyCases.{OfficeCase, took_counts, took_ends, office_passes, office_case}
use Rattle.protocol_tables.specs.Keep.{Keep, empty, store}
use Rattle.protocol_tables.specs.Office.{OfficeStep, Letter, post, keep_counting, again, office_ticks}
use Rattle.protocol_tables.specs.System.{System, by_office, by_warden, by_reader, Move, writes, office_tick, office_hear, warden_hear, reads, reader_ticks, reader_hears, office_restarts, reader_restarts, lies, loses, Run, begin, then}
use Rattle.protocol_tables.proofs.Room.{Asks, round_asks, tick_asks, reader_asks, of_post}
use Rattle.protocol_tables.proofs.Within.{Within}
use Rattle.protocol_tables.proofs.TableCases.{Written, begins_it, refuses, written}
use Rattle.protocol_files.proofs.Takes as T
use Rattle.protocol_files.proofs.WardenRuns.{seen_by}

-- WHAT THE LOG SAYS
reader_held : (i k j : ℕ) (q : Reader) (out : Outcome ReaderDone) (l : Log) → held i k (reader_event j q out ++ l) ≡ held i k l
reader_held i k j q (Done asked) l = omega arith
reader_held i k j q (Done asked_again) l = refl
reader_held i k j q (Done retried) l = omega arith
reader_held i k j q (Done no_reading) l = refl
reader_held i k j q (Done heard) l = refl
reader_held i k j q (Done undecided) l = refl
reader_held i k j q (Done (read x)) l = omega arith
reader_held i k j q (Done unsure) l = omega arith
reader_held i k j q (Refused m) l = refl

-- what it has it took
abbrev Taken : (i k : ℕ) → Log → Type 0
Taken i k l = (held i k l ≡ 0) ⊎ Memᴰ (events.Took i k (held i k l)) l

taken_still : (i k : ℕ) (x : Event) (l : Log) → held i k (x ∷ l) ≡ held i k l → Taken i k l → Taken i k (x ∷ l)
taken_still i k x l same = ⊎_elim (λ none. inl (same ∙ none)) (λ at. inr (Memᴰ.tail (subst (λ (e : ℕ). Memᴰ (events.Took i k e) l) (sym same) at)))

taken_more : (i k : ℕ) (x : Event) (l : Log) → Taken i k l → Taken i k (x ∷ l)
taken_more i k (events.Began k' e v) l h = taken_still i k (events.Began k' e v) l (omega arith) h
taken_more i k (events.Ended k' e) l h = taken_still i k (events.Ended k' e) l (omega arith) h
taken_more i k (events.Took i' k' e) l h =
    ⊎_elim
    (λ (late : held i k l < took i k (events.Took i' k' e)).
    let own : i ≡ i' = grind arith in
    let about : k ≡ k' = grind arith in
    let now : max (took i k (events.Took i' k' e)) (held i k l) ≡ e = grind arith in
    inr (Memᴰ.head (cc)))
    (λ (old : took i k (events.Took i' k' e) ≤ held i k l). taken_still i k (events.Took i' k' e) l (omega arith) h)
    (cases_lt (held i k l) (took i k (events.Took i' k' e)))
taken_more i k (events.Lost i') l h = ⊎_elim (λ (is : i ≡ i'). inl (rw (eq-eqb i i' is))) (λ apart. taken_still i k (events.Lost i') l (rw (ne_eqb i i' apart) (omega arith)) h) (cases_eq i i')
taken_more i k (events.Asked j k') l h = taken_still i k (events.Asked j k') l (omega arith) h
taken_more i k (events.Retried j k') l h = taken_still i k (events.Retried j k') l (omega arith) h
taken_more i k (events.Read j k' e v) l h = taken_still i k (events.Read j k' e v) l (omega arith) h
taken_more i k (events.Unsure j k') l h = taken_still i k (events.Unsure j k') l (omega arith) h

pub held_took : (i k : ℕ) (l : Log) → Taken i k l
held_took i k [] = inl refl
held_took i k (x ∷ l) = taken_more i k x l (held_took i k l)

-- WHAT IS TOLD
abbrev pub Holding : (ℕ → Keep Note) → Log → Type 0
Holding w l = (i k : ℕ) → held i k l ≡ ((w i).at k).edition

abbrev pub ToldRight : (n : ℕ) (liar : ℕ → Bool) → List Packet → Log → Type 0
ToldRight n liar bag l = (p : Packet) (r : ℕ) (x : Note) → Memᴰ p bag → p.from < n → liar p.from ≡ false → p.message ≡ Told r x → (x.edition ≡ 0) ⊎ Memᴰ (events.Took p.from p.note x.edition) l

took_holding : (w : ℕ → Keep Note) (l : Log) (i k : ℕ) (x : Note) → ((w i).at k).edition < x.edition → Holding w l → Holding (put i (store k x (w i)) w) (events.Took i k x.edition ∷ l)
took_holding w l i k x late h j c = let here = h i k in let old = h j c in grind arith

lost_holding : (w : ℕ → Keep Note) (l : Log) (i : ℕ) (d : Keep Note) → ((k : ℕ) → (d.at k).edition ≡ 0) → Holding w l → Holding (put i d w) (Lost i ∷ l)
lost_holding w l i d none h j k = let gone = none k in let old = h j k in grind arith

told_more : (n : ℕ) (liar : ℕ → Bool) {bag : List Packet} {l log : Log} (ps : List Packet) → ((p : Packet) (r : ℕ) (x : Note) → Memᴰ p ps → p.from < n → liar p.from ≡ false → p.message ≡ Told r x → (x.edition ≡ 0) ⊎ Memᴰ (events.Took p.from p.note x.edition) log) → Within l log → ToldRight n liar bag l → ToldRight n liar (ps ++ bag) log
told_more n liar ps new news h p r x at below own is =
    ⊎_elim (λ at. new p r x at below own is) (λ at. ⊎_elim inl (λ took. inr (news (events.Took p.from p.note x.edition) took)) (h p r x at below own is)) (Memᴰ.append_cases ps at)

-- nothing is told
never_told : (n from k : ℕ) (m : Message) → ((r : ℕ) (x : Note) → m ≡ Told r x → ⊥) → (p : Packet) (r : ℕ) (x : Note) → Memᴰ p (packets n from k (Each m)) → p.message ≡ Told r x → ⊥
never_told n from k m other p r x at is = let (i, _, same) = of_each n (λ i. record { from = from; to = i; note = k; message = m }) p at in other r x (sym (ap (λ (p : Packet). p.message) same) ∙ is)

asks_tell : (n j k : ℕ) (sends : Sends) → Asks sends → (p : Packet) (r : ℕ) (x : Note) → Memᴰ p (packets n j k sends) → p.message ≡ Told r x → ⊥
asks_tell n j k words.Nothing so p r x at is = Memᴰ.not-nil at
asks_tell n j k (One to m) so p r x at is = absurd so
asks_tell n j k (Each m) (round, asks) p r x at is = never_told n j k m (λ r x is. cc) p r x at is

-- ALL TOGETHER
pub record Honest (n : ℕ) (liar : ℕ → Bool) (s : System) : Type 0 where
  pub holding : Holding s.warden s.log
  pub told : ToldRight n liar s.bag s.log

module _ (n f : ℕ) (liar : ℕ → Bool) where
  written_honest : (s : System) (k : ℕ) (v : List ℕ) {o : OfficeStep} → Written s.office k v o → Honest n liar s → Honest n liar (by_office n k o s)
  written_honest s k v (begins_it ready) h =
      record { holding = λ i c. omega (arith, h.holding i c); told = told_more n liar (packets n office k (Each (Take x))) (λ p r y at _ _ is. absurd (never_told n office k (Take x) (λ r y is. cc) p r y at is)) (λ e at. Memᴰ.tail at) h.told }
    where
      x : Note
      x = (begin_writing (s.office.desks.at k) v).next.now
  written_honest s k v (refuses m) h = record { holding = h.holding; told = h.told }

  counted_honest : (s : System) (k from : ℕ) {m : Message} {st : Step Desk OfficeDone} → OfficeCase n f (s.office.desks.at k) from m st → Honest n liar s → Honest n liar (by_office n k (keep_counting s.office k st) s)
  counted_honest s k from (office_passes e) h = record { holding = h.holding; told = h.told }
  counted_honest s k from (took_counts below busy short) h = record { holding = h.holding; told = h.told }
  counted_honest s k from (took_ends below busy all) h = record { holding = λ i c. omega (arith, h.holding i c); told = told_more n liar [] (λ p r x at. absurd (Memᴰ.not-nil at)) (λ e at. Memᴰ.tail at) h.told }

  ticks_told : (s : System) → Honest n liar s → ToldRight n liar (post n (office_ticks s.office).letters s.bag) s.log
  ticks_told s h p r x at below own is = ⊎_elim (λ at. h.told p r x at below own is) (λ from_letter. absurd (again_tells from_letter)) (of_post n (office_ticks s.office).letters s.bag p at)
    where
      again_tells : (l : Letter) × Memᴰ l (map (again s.office.desks) s.office.under_way) × Memᴰ p (packets n office l.note l.sends) → ⊥
      again_tells (l, listed, at) =
          let (k, _, same) = Memᴰ.of_map (again s.office.desks) s.office.under_way listed in
          never_told n office k (Take (s.office.desks.at k).now) (λ r y is. cc) p r x (subst (λ (l : Letter). Memᴰ p (packets n office l.note l.sends)) (sym same) at) is

  -- what it tells it has
  tells_right : (s : System) (i k : ℕ) (sends : Sends) → T.Tells (s.warden i) k sends → Honest n liar s → (p : Packet) (r : ℕ) (x : Note) → Memᴰ p (packets n i k sends) → p.message ≡ Told r x → (x.edition ≡ 0) ⊎ Memᴰ (events.Took p.from p.note x.edition) s.log
  tells_right s i k words.Nothing tells h p r x at is = absurd (Memᴰ.not-nil at)
  tells_right s i k (One to m) tells h p r x at is =
      let same : p ≡ record { from = i; to = to; note = k; message = m } = Memᴰ.eq_of_singleton at in
      let text : x ≡ (s.warden i).at k = tells r x (sym (ap (λ (p : Packet). p.message) same) ∙ is) in
      let edition : held i k s.log ≡ x.edition = h.holding i k ∙ ap (λ (y : Note). y.edition) (sym text) in
      ⊎_elim (λ none. inl (sym edition ∙ none)) (λ took. inr (subst (λ (p : Packet). Memᴰ (events.Took p.from p.note x.edition) s.log) (sym same) (subst (λ (e : ℕ). Memᴰ (events.Took i k e) s.log) edition took))) (held_took i k s.log)
  tells_right s i k (Each m) tells h p r x at is = absurd tells

  warden_honest : (s : System) (i from k : ℕ) (m : Message) {o : Step (Keep Note) WardenDone} → T.Heard (s.warden i) from k m o → Honest n liar s → Honest n liar (by_warden n i k o s)
  warden_honest s i from k m (T.took x sent late roomy) h =
      subst (λ (y : Note). Honest n liar (record { office = s.office; warden = put i (store k x (s.warden i)) s.warden; reader = s.reader; bag = packets n i k (One office (Took x.edition)) ++ s.bag; log = events.Took i k y.edition ∷ s.log })) (sym (put_same k x (s.warden i).at))
      (record {
        holding = took_holding s.warden s.log i k x late h.holding;
        told = told_more n liar (packets n i k (One office (Took x.edition))) (λ p r y at _ _ is. cc (ap (λ (p : Packet). p.message) (Memᴰ.eq_of_singleton at))) (λ e at. Memᴰ.tail at) h.told;
      })
  warden_honest s i from k m (T.other sends out no_take tells) h =
      subst (λ (w : ℕ → Keep Note). Honest n liar (record { office = s.office; warden = w; reader = s.reader; bag = packets n i k sends ++ s.bag; log = warden_event i k ((s.warden i).at k) out ++ s.log })) (sym (put_own i s.warden))
      (subst (λ (xs : Log). Honest n liar (record { office = s.office; warden = s.warden; reader = s.reader; bag = packets n i k sends ++ s.bag; log = xs ++ s.log })) (sym (seen_by i k out ((s.warden i).at k) no_take))
      (record { holding = h.holding; told = told_more n liar (packets n i k sends) (λ p r x at _ _ is. tells_right s i k sends tells h p r x at is) (λ e at. at) h.told }))

  reader_honest : (s : System) (j : ℕ) (o : Step Reader ReaderDone) → Asks o.sends → Honest n liar s → Honest n liar (by_reader n j o s)
  reader_honest s j o asks h =
      record {
        holding = λ i k. reader_held i k j o.next o.outcome s.log ∙ h.holding i k;
        told = told_more n liar (packets n j o.next.note o.sends) (λ p r x at _ _ is. absurd (asks_tell n j o.next.note o.sends asks p r x at is)) (λ e at. Memᴰ.append_right (reader_event j o.next o.outcome) at) h.told;
      }

  honest_by : {s t : System} → Move n f liar s t → Honest n liar s → Honest n liar t
  honest_by {s} (writes k v) h = written_honest s k v (written s.office k v) h
  honest_by {s} office_tick h = record { holding = h.holding; told = ticks_told s h }
  honest_by {s} (office_hear p m to) h = counted_honest s p.note p.from (office_case n f (s.office.desks.at p.note) p.from p.message) h
  honest_by {s} (warden_hear i p l own m to) h = warden_honest s i p.from p.note p.message (T.heard (s.warden i) p.from p.note p.message) h
  honest_by {s} (reads j k own) h = reader_honest s j (read_on (s.reader j) k) (round_asks k more_rounds asked (s.reader j)) h
  honest_by {s} (reader_ticks j own) h = reader_honest s j (reader_tick n f (s.reader j)) (tick_asks n f (s.reader j)) h
  honest_by {s} (reader_hears j p own m to) h = reader_honest s j (reader_on n f (s.reader j) p.from p.note p.message) (reader_asks n f (s.reader j) p.from p.note p.message) h
  honest_by office_restarts h = record { holding = h.holding; told = h.told }
  honest_by (reader_restarts j first up) h = record { holding = h.holding; told = h.told }
  honest_by (lies p so other) h =
      record { holding = h.holding; told = told_more n liar (p ∷ []) (λ q r x at _ own _. absurd (both_ways (liar p.from) (subst (λ (q : Packet). liar q.from ≡ false) (Memᴰ.eq_of_singleton at) own) so)) (λ e at. at) h.told }
  honest_by {s} (loses i) h =
      record { holding = lost_holding s.warden s.log i (empty none) (λ k. refl) h.holding; told = told_more n liar [] (λ p r x at. absurd (Memᴰ.not-nil at)) (λ e at. Memᴰ.tail at) h.told }

  pub run_honest : {s : System} → Run n f liar s → Honest n liar s
  run_honest begin = record { holding = λ i k. refl; told = λ p r x at. absurd (Memᴰ.not-nil at) }
  run_honest (then before m) = honest_by m (run_honest before)
