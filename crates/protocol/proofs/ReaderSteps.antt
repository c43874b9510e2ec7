-- What a reader does, the model can do; and what it says is right.
-- Assumes nothing.
use Rattle.std.proofs.Common.{◌≡◌, ℕ, suc, ◌+◌, ◌-◌, ◌*◌, ◌<◌, ◌≤◌, Bool, true, false, ◌||◌, leb, List, [], ◌∷◌, ◌++◌, sym, refl, ap, ◌∙◌, inl, inr, ⊎_elim, arith}
use mathlib.Core.List.{Memᴰ}
use Rattle.std.proofs.lemmas.Bool.{cases_eq, ne_eqb, eq-eqb, leb-true}
use Rattle.register.specs.Count.{count}
use Rattle.register.specs.Note.{Note}
use Rattle.register.specs.Rule.{silence, reply, answers, IsRead, Reading, Found, Nothing, pick}
use Rattle.register.specs.Model.{note, Round, opened, hearing, World, new_round, Step}
use Rattle.register.specs.Model as M
use Rattle.register.specs.Promise.{Full, Heard, Stands}
use Rattle.register.proofs.Counting.{within}
use Rattle.register.proofs.Put.{put_all, put_same}
use Rattle.register.proofs.Keeps.{reach_kept}
use Rattle.register.proofs.Stands.{stand, reads}
use Rattle.register.proofs.Picks.{pick_found, pick_nothing}
use Rattle.protocol.specs.Message.{Message, Ask, Told, Packet, Each, packets}
use Rattle.protocol.specs.Step.{Done, quiet, refuse}
use Rattle.protocol.specs.Step as steps
use Rattle.protocol.specs.Reader.{ReaderDone, asked, retried, Reader, new_reader, more_rounds, in_round, read_on, decided, reader_tick, hear, over, reader_on}
use Rattle.protocol.specs.Log.{Event, Asked, Retried, Read, Unsure, opens, took, high, before_round, reading, retried_since, lapsed}
use Rattle.protocol.specs.Promise.{Few, Settled, Busy, RightRead}
use Rattle.protocol.specs.System.{reader_event}
use Rattle.protocol.proofs.Logs.{begun_in, ended_in, ended_most, before_ended, before_high, behind_lapsed, Rights}
use Rattle.protocol.proofs.Packets.{of_each}
use Rattle.protocol.proofs.PartyCases.{RoundCase, round_opens, round_refused, round_case, TickCase, tick_opens, tick_refused, tick_again, tick_idle, tick_case, DecideCase, decide_reads, decide_waits, decide_doubts, decide_case, Awaited, ReaderCase, told_counts, told_decides, reader_passes, reader_case}
use Rattle.protocol.proofs.Sound.{SoundReader}
use Rattle.protocol.proofs.Shows.{ShowsRound, Seen, also, readered, Shows, Followed, AllMean, more_mean, still_mean, nothing_sent, Outside, Outsides, Unsaids, desk_log, warden_log, changes, stays}

module _ (n f : ℕ) (liar : ℕ → Bool) (k j : ℕ) where
  ask_each : (w : World) (j' k' r : ℕ) → (j' ≡ j → k' ≡ k → (w.round r).live ≡ true) → AllMean n f liar k j w (packets n j' k' (Each (Ask r)))
  ask_each w j' k' r live p at =
      let (i, l, is) = of_each n (λ i. record { from = j'; to = i; note = k'; message = Ask r }) p at in
      rw is (λ mine _ same. live mine same)

  -- a round of this note begins
  opening : {z : Seen} (left : ℕ) (x : Event) → Outside k x → opens j x ≡ true → reading j k (x ∷ z.log) ≡ true → left + retried_since j (x ∷ z.log) ≡ more_rounds → Followed n f liar k j z →
      Followed n f liar k j (record { desk = z.desk; warden = z.warden; reader = in_round k left z.reader; bag = packets n j k (Each (Ask z.reader.next)) ++ z.bag; log = x ∷ z.log })
  opening {z} left x out begins reads rounds (w, reach, h) = (
    v,
    M.then reach step,
    record {
      desk = desk_log x out.begun out.ended h.desk;
      warden = λ i. warden_log x (out.took i) (h.warden i);
      reader = record {
        shut = put_all (λ r c. suc q ≤ r → c.live ≡ false) q c w.round (λ l. absurd (omega arith)) (λ r l. h.reader.shut r (omega arith));
        now = λ _ _. rw (put_same q c w.round) now;
        reads = λ _ _. reads;
        left = λ _ _. rounds;
      };
      bag = more_mean n f liar k j v (packets n j k (Each (Ask q))) (ask_each v j k q (λ _ _. rw (put_same q c w.round) refl)) (still_mean n f liar k j step h.bag);
    },
  )
    where
      q : ℕ
      q = z.reader.next

      c : Round
      c = opened w.office w.warden

      v : World
      v = new_round q c w

      step : Step n f liar w v
      step = M.opens q (h.reader.shut q (omega arith))

      now : ShowsRound k j c silence (x ∷ z.log)
      now =
          record {
            live = refl;
            replies = refl;
            since = omega (arith, before_ended j k (x ∷ z.log), (desk_log x out.begun out.ended h.desk).ended);
            tops = λ i. omega (arith, before_high i j k (x ∷ z.log), (warden_log x (out.took i) (h.warden i)).high);
            lapsed = λ i e. behind_lapsed i j k (x ∷ z.log) (let c = warden_log x (out.took i) (h.warden i) in let held = c.held in let high = c.high in grind arith);
          }

  -- a warden is heard, for this note
  hearing_in : {z : Seen} (i to : ℕ) (x : Note) → to ≡ j → i < n → liar j ≡ false → SoundReader n f z.reader → z.reader.busy ≡ true → z.reader.note ≡ k → z.reader.replies.heard i ≡ false → Memᴰ (record { from = i; to = to; note = k; message = Told z.reader.round x }) z.bag → Followed n f liar k j z → Followed n f liar k j (record { desk = z.desk; warden = z.warden; reader = hear i x z.reader; bag = z.bag; log = z.log })
  hearing_in {z} i to x mine l fair sound busy same new m (w, reach, h) = (
    v,
    M.then reach step,
    record {
      desk = h.desk;
      warden = h.warden;
      reader = record {
        shut = put_all (λ r c. z.reader.next ≤ r → c.live ≡ false) q c w.round (λ up. absurd (omega (arith, sound.begun busy))) h.reader.shut;
        now = λ _ _. rw (put_same q c w.round) (record { live = old.live; replies = ap (reply i x) old.replies; since = old.since; tops = old.tops; lapsed = old.lapsed });
        reads = h.reader.reads;
        left = h.reader.left;
      };
      bag = still_mean n f liar k j step h.bag;
    },
  )
    where
      q : ℕ
      q = z.reader.round

      old : ShowsRound k j (w.round q) z.reader.replies z.log
      old = h.reader.now busy same

      c : Round
      c = hearing i x (w.round q)

      v : World
      v = new_round q c w

      step : Step n f liar w v
      step = M.listens q i x l old.live (rw old.replies new) (⊎_elim inl (λ told. inr (told mine fair refl).1) (h.bag (record { from = i; to = to; note = k; message = Told q x }) m l))

  -- the reader is in a reading of another note
  elsewhere : {z : Seen} (q : Reader) (ps : List Packet) (xs : List Event) → Outsides k xs → (k ≡ q.note → ⊥) → z.reader.next ≤ q.next → ((w : World) → AllMean n f liar k j w ps) → Followed n f liar k j z → Followed n f liar k j (record { desk = z.desk; warden = z.warden; reader = q; bag = ps ++ z.bag; log = xs ++ z.log })
  elsewhere {z} q ps xs out apart up mean at =
      changes n f liar k j q ps xs out
      (λ w _ h. (mean w, record { shut = λ r l. h.reader.shut r (omega arith); now = λ _ same. absurd (apart (sym same)); reads = λ _ same. absurd (apart (sym same)); left = λ _ same. absurd (apart (sym same)) }))
      at

  -- it does not read
  not_reading : {z : Seen} (q : Reader) (xs : List Event) → Outsides k xs → q.busy ≡ false → z.reader.next ≤ q.next → Followed n f liar k j z → Followed n f liar k j (record { desk = z.desk; warden = z.warden; reader = q; bag = z.bag; log = xs ++ z.log })
  not_reading {z} q xs out idle up at =
      changes n f liar k j q [] xs out
      (λ w _ h. (nothing_sent n f liar k j w, record { shut = λ r l. h.reader.shut r (omega arith); now = λ busy _. cc; reads = λ busy _. cc; left = λ busy _. cc }))
      at

  pub restarting : {z : Seen} (first : ℕ) → z.reader.next ≤ first → Followed n f liar k j z → Followed n f liar k j (record { desk = z.desk; warden = z.warden; reader = new_reader first; bag = z.bag; log = z.log })
  restarting first up at = not_reading (new_reader first) [] tt refl up at

  module _ (least : 4 * f < n) where
    -- what the model's theorem says of the reader's round
    module _ {z : Seen} (busy : z.reader.busy ≡ true) (same : z.reader.note ≡ k) (full : decided n f z.reader ≡ true) (w : World) (reach : M.Reach n f liar w) (h : Shows n liar k j w z) where
      abbrev round : Round
      round = w.round z.reader.round

      now : ShowsRound k j round z.reader.replies z.log
      now = h.reader.now busy same

      enough : n ≤ answers n round.replies + f
      enough = rw now.replies (leb-true n (answers n z.reader.replies + f) full)

      is_full : Few n f liar j k z.log → Full n f liar round
      is_full few =
          record {
            enough = enough;
            few = omega (arith, within n (λ i. liar i || round.lapsed i) (λ i. liar i || lapsed i j k z.log) (λ i _ e. let up = now.lapsed i in grind arith));
          }

      settles : (e : ℕ) → Settled n f liar k e (before_round j z.log) → n ≤ count n (λ i. liar i || leb e (round.tops i)) + f
      settles e settled =
          omega (arith, within n (λ i. liar i || leb e (high i k (before_round j z.log))) (λ i. liar i || leb e (round.tops i)) (λ i _ so. let up = now.tops i in grind arith))

      reads_right : (x : Note) → pick n f z.reader.replies n ≡ Found x → RightRead n f liar z.log j k x.edition x.value
      reads_right x picked =
          record {
            due = h.reader.reads busy same;
            written = λ few. ⊎_elim (λ e. inr (ap (λ (y : Note). y.edition) e, ap (λ (y : Note). y.value) e)) (λ (one, below, is). inl (rw is (h.desk.begun x.edition one below))) (stands.written few x is_read);
            fresh = λ few e m. omega (arith, ended_most k e (before_round j z.log) m, now.since, (reads n f liar least w reach z.reader.round (is_full few)).fresh x is_read);
            fresh_held = λ few e settled. let full = is_full few in let heard : Heard n f liar round = omega (arith, full.few, full.enough) in stands.fresh heard x is_read e (settles e settled);
          }
        where
          is_read : IsRead n f round.replies x
          is_read = rw now.replies (pick_found n f z.reader.replies n x picked)

          stands : Stands n f liar w.office round
          stands = stand n f liar w reach z.reader.round

      -- a round that read nothing: something was being written meanwhile
      pub doubts_right : pick n f z.reader.replies n ≡ Nothing → Few n f liar j k z.log → Busy j k z.log
      doubts_right picked few = (
        w.office.edition,
        w.office.value w.office.edition,
        h.desk.begun w.office.edition (omega (arith, begun)) (omega arith),
        λ m. omega (arith, ended_most k w.office.edition (before_round j z.log) m, now.since, begun),
      )
        where
          begun : round.since < w.office.edition
          begun =
              let kept = reach_kept reach in
              ⊎_elim
              (λ (still : w.office.edition ≡ round.since). absurd (pick_nothing n f z.reader.replies picked (note w.office round.since) (rw now.replies at ((reads n f liar least w reach z.reader.round (is_full few)).sure still))))
              (λ (moved : w.office.edition ≡ round.since → ⊥). omega (arith, (kept.round z.reader.round).order, kept.office.order))
              (cases_eq w.office.edition round.since)

    -- it goes on as the model can, and says, of this note, what is right
    abbrev pub Readered : Seen → steps.Step Reader ReaderDone → Type 0
    Readered z o = Followed n f liar k j (readered n j o z) × (z.reader.note ≡ k → Rights n f liar (reader_event j o.next o.outcome) z.log)

    -- what a reader says of its own reading
    nothing_of : {x : Event} → begun_in k x ≡ 0 → ended_in k x ≡ 0 → ((i : ℕ) → took i k x ≡ 0) → Outside k x
    nothing_of a b c = record { begun = a; ended = b; took = c }

    deciding : {z : Seen} {c : Reading} {o : steps.Step Reader ReaderDone} → z.reader.busy ≡ true → decided n f z.reader ≡ true → Followed n f liar k j z → DecideCase z.reader c o → pick n f z.reader.replies n ≡ c → Readered z o
    deciding {z} busy full at (decide_reads x) picked = (
      not_reading (over z.reader) (Read j z.reader.note x.edition x.value ∷ []) (nothing_of refl refl (λ i. refl), tt) refl (omega arith) at,
      λ same. let (w, reach, h) = at in (rw same (reads_right busy same full w reach h x picked), tt),
    )
    deciding busy full at (decide_waits more) picked = (at, λ _. tt)
    deciding {z} busy full at (decide_doubts last) picked = (
      not_reading (over z.reader) (Unsure j z.reader.note ∷ []) (nothing_of refl refl (λ i. refl), tt) refl (omega arith) at,
      λ same. let (w, reach, h) = at in (rw same (record { due = h.reader.reads busy same; busy = doubts_right busy same full w reach h picked; last = omega (arith, h.reader.left busy same) }), tt),
    )

    -- a round of whichever note begins
    beginning : {z : Seen} (k' left : ℕ) (how : ReaderDone) (x : Event) → Outside k x → ((q : Reader) → q.note ≡ k' → reader_event j q (Done how) ≡ x ∷ []) → opens j x ≡ true → (k ≡ k' → (reading j k (x ∷ z.log) ≡ true) × (left + retried_since j (x ∷ z.log) ≡ more_rounds)) → Followed n f liar k j z →
        Followed n f liar k j (readered n j (record { next = in_round k' left z.reader; sends = Each (Ask z.reader.next); outcome = Done how }) z)
    beginning {z} k' left how x out event begins reads at =
        rw (event (in_round k' left z.reader) refl)
        (⊎_elim
        (λ (same : k ≡ k'). rw (← same) (let (due, rounds) = reads same in opening left x out begins due rounds at))
        (λ (apart : k ≡ k' → ⊥). elsewhere (in_round k' left z.reader) (packets n j k' (Each (Ask z.reader.next))) (x ∷ []) (out, tt) apart (omega arith) (λ w. ask_each w j k' z.reader.next (λ _ same. absurd (apart (sym same)))) at)
        (cases_eq k k'))

    pub read_follows : {z : Seen} (k' : ℕ) → Followed n f liar k j z → Readered z (read_on z.reader k')
    read_follows {z} k' at = go (round_case k' more_rounds asked z.reader)
      where
        go : {o : steps.Step Reader ReaderDone} → RoundCase k' more_rounds asked z.reader o → Readered z o
        go round_opens =
            (beginning k' more_rounds asked (Asked j k') (nothing_of refl refl (λ i. refl)) (λ q is. rw is) (rw (eq-eqb j j refl)) (λ same. (rw (← same, eq-eqb j j refl, eq-eqb k k refl), rw (eq-eqb j j refl))) at, λ _. (tt, tt))
        go round_refused = (at, λ _. tt)

    pub tick_follows : {z : Seen} → SoundReader n f z.reader → Followed n f liar k j z → Readered z (reader_tick n f z.reader)
    tick_follows {z} sound at = go (tick_case n f z.reader)
      where
        k' : ℕ
        k' = z.reader.note

        left : ℕ
        left = z.reader.left - 1

        go : {o : steps.Step Reader ReaderDone} → TickCase n f z.reader o → Readered z o
        go (tick_opens busy full) = (
          beginning k' left retried (Retried j k') (nothing_of refl refl (λ i. refl)) (λ q is. rw is) (rw (eq-eqb j j refl)) (λ same. let (w, reach, h) = at in (rw (← same, eq-eqb j j refl, eq-eqb k k refl), rw (eq-eqb j j refl) (omega (arith, h.reader.left busy (sym same), sound.more busy full)))) at,
          λ same. let (w, reach, h) = at in (rw same (record { due = h.reader.reads busy same; busy = doubts_right busy same full w reach h (sound.nothing busy full); more = omega (arith, h.reader.left busy same, sound.more busy full) }), tt),
        )
        go tick_refused = (at, λ _. tt)
        go (tick_again busy) = (stays n f liar k j (packets n j k' (Each (Ask z.reader.round))) [] (λ w _ h. ask_each w j k' z.reader.round (λ _ same. (h.reader.now busy same).live)) tt tt at, λ _. tt)
        go tick_idle = (at, λ _. tt)

    pub reader_follows : {z : Seen} (from to k' : ℕ) (m : Message) → to ≡ j → liar j ≡ false → SoundReader n f z.reader → Memᴰ (record { from = from; to = to; note = k'; message = m }) z.bag → Followed n f liar k j z → Readered z (reader_on n f z.reader from k' m)
    reader_follows {z} from to k' m mine fair sound sent at = go (reader_case n f z.reader from k' m) sent
      where
        hears : (r : ℕ) (x : Note) → from < n → Awaited n f from k' r z.reader → Memᴰ (record { from = from; to = to; note = k'; message = Told r x }) z.bag → Followed n f liar k j (record { desk = z.desk; warden = z.warden; reader = hear from x z.reader; bag = z.bag; log = z.log })
        hears r x below due sent =
            ⊎_elim
            (λ (same : k ≡ z.reader.note). hearing_in from to x mine below fair sound due.busy (sym same) due.new (rw (due.note ∙ sym same, due.round) at sent) at)
            (λ (apart : k ≡ z.reader.note → ⊥). elsewhere (hear from x z.reader) [] [] tt apart (omega arith) (nothing_sent n f liar k j) at)
            (cases_eq k z.reader.note)

        go : {m : Message} {o : steps.Step Reader ReaderDone} → ReaderCase n f z.reader from k' m o → Memᴰ (record { from = from; to = to; note = k'; message = m }) z.bag → Readered z o
        go (told_counts r x below due short) sent = (hears r x below due sent, λ _. tt)
        go (told_decides r x below due full) sent = deciding due.busy full (hears r x below due sent) (decide_case (hear from x z.reader) (pick n f (hear from x z.reader).replies n)) refl
        go (reader_passes e) sent = (at, λ _. tt)

  -- another reader
  abbrev Beside : ℕ → Seen → steps.Step Reader ReaderDone → Type 0
  Beside j' z o = Followed n f liar k j (also (packets n j' o.next.note o.sends) (reader_event j' o.next o.outcome) z)

  module _ {z : Seen} (j' : ℕ) (apart : j ≡ j' → ⊥) (at : Followed n f liar k j z) where
    sending : (xs : List Event) (k' r : ℕ) → Outsides k xs → Unsaids j xs → Followed n f liar k j (also (packets n j' k' (Each (Ask r))) xs z)
    sending xs k' r out unsaid = stays n f liar k j (packets n j' k' (Each (Ask r))) xs (λ w _ _. ask_each w j' k' r (λ mine _. absurd (apart (sym mine)))) out unsaid at

    saying : (x : Event) → Outside k x → Unsaids j (x ∷ []) → Followed n f liar k j (also [] (x ∷ []) z)
    saying x out unsaid = stays n f liar k j [] (x ∷ []) (λ w _ _. nothing_sent n f liar k j w) (out, tt) unsaid at

    decide_beside : {q : Reader} {c : Reading} {o : steps.Step Reader ReaderDone} → DecideCase q c o → Beside j' z o
    decide_beside {q} (decide_reads x) = saying (Read j' q.note x.edition x.value) (record { begun = refl; ended = refl; took = λ i. refl }) (record { asks = refl; retries = refl; by = ne_eqb j j' apart }, tt)
    decide_beside (decide_waits more) = at
    decide_beside {q} (decide_doubts last) = saying (Unsure j' q.note) (record { begun = refl; ended = refl; took = λ i. refl }) (record { asks = refl; retries = refl; by = ne_eqb j j' apart }, tt)

    pub read_beside : (q : Reader) (k' : ℕ) → Beside j' z (read_on q k')
    read_beside q k' = go (round_case k' more_rounds asked q)
      where
        go : {o : steps.Step Reader ReaderDone} → RoundCase k' more_rounds asked q o → Beside j' z o
        go round_opens = sending (Asked j' k' ∷ []) k' q.next (record { begun = refl; ended = refl; took = λ i. refl }, tt) (record { asks = ne_eqb j j' apart; retries = refl; by = ne_eqb j j' apart }, tt)
        go round_refused = at

    pub tick_beside : (q : Reader) → Beside j' z (reader_tick n f q)
    tick_beside q = go (tick_case n f q)
      where
        go : {o : steps.Step Reader ReaderDone} → TickCase n f q o → Beside j' z o
        go (tick_opens busy full) = sending (Retried j' q.note ∷ []) q.note q.next (record { begun = refl; ended = refl; took = λ i. refl }, tt) (record { asks = refl; retries = ne_eqb j j' apart; by = ne_eqb j j' apart }, tt)
        go tick_refused = at
        go (tick_again busy) = sending [] q.note q.round tt tt
        go tick_idle = at

    pub reader_beside : (q : Reader) (from k' : ℕ) (m : Message) → Beside j' z (reader_on n f q from k' m)
    reader_beside q from k' m = go (reader_case n f q from k' m)
      where
        go : {m : Message} {o : steps.Step Reader ReaderDone} → ReaderCase n f q from k' m o → Beside j' z o
        go (told_counts r x below due short) = at
        go (told_decides r x below due full) = decide_beside (decide_case (hear from x q) (pick n f (hear from x q).replies n))
        go (reader_passes e) = at
