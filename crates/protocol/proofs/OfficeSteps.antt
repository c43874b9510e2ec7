-- What the office does, the model can do; and what is seen of it is right.
-- Assumes nothing.
use Rattle.std.proofs.Common.{◌≡◌, ℕ, suc, ◌+◌, ◌<◌, ◌≤◌, Bool, true, false, ◌||◌, leb, List, [], ◌∷◌, sym, refl, ap, ◌∙◌, inl, inr, ⊎_elim, arith}
use mathlib.Core.List.Memᴰ
use mathlib.Core.List.{Memᴰ}
use Rattle.std.proofs.lemmas.Bool.{cond_both, cases_eq, ne_eqb, leb-true}
use Rattle.register.specs.Count.{count, put}
use Rattle.register.specs.Note.{Note}
use Rattle.register.specs.Model.{acked, closed, World, new_office, Step}
use Rattle.register.specs.Model as M
use Rattle.register.proofs.Counting.{within}
use Rattle.register.proofs.Put.{put_both, put_same}
use Rattle.register.proofs.Keeps.{Written, has, reach_kept}
use Rattle.protocol.specs.Message.{office, Message, Take, Took, Each, packets}
use Rattle.protocol.specs.Step.{quiet, refuse}
use Rattle.protocol.specs.Step as steps
use Rattle.protocol.specs.Office.{OfficeDone, no_writing, counted, ended, Desk, begin_writing, write_on, resend, office_tick, acknowledge, close, office_on}
use Rattle.protocol.specs.Log.{Began, Ended, high}
use Rattle.protocol.specs.Promise.{RightBegan, RightEnded}
use Rattle.protocol.specs.System.{office_event, forget}
use Rattle.protocol.proofs.Logs.{begun_most, not_begun, ended_most, Rights}
use Rattle.protocol.proofs.Packets.{of_each}
use Rattle.protocol.proofs.PartyCases.{WriteCase, write_begins, write_refused, write_case, OfficeCase, took_counts, took_ends, office_passes, office_case}
use Rattle.protocol.proofs.Shows.{Seen, also, desked, Followed, AllMean, more_mean, still_mean, nothing_sent, warden_log, reader_log, stays}

module _ (n f : ℕ) (liar : ℕ → Bool) (k j : ℕ) where
  take_each : (w : World) (k' : ℕ) (x : Note) → (k' ≡ k → Written w.office x) → AllMean n f liar k j w (packets n office k' (Each (Take x)))
  take_each w k' x written p at =
      let (i, l, is) = of_each n (λ i. record { from = office; to = i; note = k'; message = Take x }) p at in
      rw is (λ _. written)

  -- it begins to write
  beginning : {z : Seen} (v : List ℕ) → z.desk.busy ≡ false → Followed n f liar k j z → Followed n f liar k j (desked n k (begin_writing z.desk v) z)
  beginning {z} v idle (w, reach, h) = (
    u,
    M.then reach step,
    record {
      desk = record {
        edition = ap suc h.desk.edition;
        value = value;
        idle = λ e. cc;
        busy = λ e. omega (arith, h.desk.idle idle);
        acks = λ i e. cc;
        begun = λ e one below. ⊎_elim (here e) (there e one below) (cases_eq e (suc w.office.edition));
        most = let old = h.desk.most in let is = h.desk.edition in grind arith;
        some = λ e u m. ⊎_elim (λ (is : Began k e u ≡ Began k (suc z.desk.now.edition) v). let same : e ≡ suc z.desk.now.edition = cc in omega arith) (h.desk.some e u) (Memᴰ.cases_cons m);
        done = λ e one below. Memᴰ.tail (h.desk.done e one below);
        ended = omega (arith, h.desk.ended);
      };
      warden = λ i. warden_log (Began k (suc z.desk.now.edition) v) refl (h.warden i);
      reader = reader_log (Began k (suc z.desk.now.edition) v) (record { asks = refl; retries = refl; by = refl }) h.reader;
      bag = more_mean n f liar k j u (packets n office k (Each (Take x))) (take_each u k x (λ _. (omega (arith, h.desk.edition), sym value))) (still_mean n f liar k j step h.bag);
    },
  )
    where
      x : Note
      x = record { edition = suc z.desk.now.edition; value = v }

      u : World
      u = new_office (M.begun v w.office) w

      step : Step n f liar w u
      step = M.begins v (h.desk.idle idle)

      value : put (suc w.office.edition) v w.office.value (suc z.desk.now.edition) ≡ v
      value = rw h.desk.edition (put_same (suc z.desk.now.edition) v w.office.value)

      here : (e : ℕ) → e ≡ suc w.office.edition → Memᴰ (Began k e (put (suc w.office.edition) v w.office.value e)) (Began k (suc z.desk.now.edition) v ∷ z.log)
      here e is = rw (is, h.desk.edition, put_same (suc z.desk.now.edition) v w.office.value) (Memᴰ.head refl)

      there : (e : ℕ) → 1 ≤ e → e ≤ suc w.office.edition → (e ≡ suc w.office.edition → ⊥) → Memᴰ (Began k e (put (suc w.office.edition) v w.office.value e)) (Began k (suc z.desk.now.edition) v ∷ z.log)
      there e one below apart = rw (ne_eqb e (suc w.office.edition) apart) (Memᴰ.tail (h.desk.begun e one (omega arith)))

  -- it hears that a warden has it
  acking : {z : Seen} (i to : ℕ) → i < n → z.desk.busy ≡ true → Memᴰ (record { from = i; to = to; note = k; message = Took z.desk.now.edition }) z.bag → Followed n f liar k j z → Followed n f liar k j (desked n k (quiet (acknowledge i z.desk) counted) z)
  acking {z} i to l busy at (w, reach, h) =
      let said = h.bag (record { from = i; to = to; note = k; message = Took z.desk.now.edition }) at l in
      let step : Step n f liar w (new_office (acked i w.office) w) = M.hears i l (omega (arith, h.desk.busy busy)) (⊎_elim inl (λ low. inr (omega (arith, low refl, h.desk.edition))) said) in (
        new_office (acked i w.office) w,
        M.then reach step,
        record {
          desk = record { edition = h.desk.edition; value = h.desk.value; idle = h.desk.idle; busy = h.desk.busy; acks = put_both (λ _ a b. a ≡ true → b ≡ true) i true true z.desk.acks w.office.acks (λ e. e) h.desk.acks; begun = h.desk.begun; most = h.desk.most; some = h.desk.some; done = h.desk.done; ended = h.desk.ended };
          warden = h.warden;
          reader = h.reader;
          bag = still_mean n f liar k j step h.bag;
        },
      )

  -- it has forgotten who has it
  pub forgetting : {z : Seen} → Followed n f liar k j z → Followed n f liar k j (record { desk = forget z.desk; warden = z.warden; reader = z.reader; bag = z.bag; log = z.log })
  forgetting (w, reach, h) = (
    w,
    reach,
    record {
      desk = record { edition = h.desk.edition; value = h.desk.value; idle = h.desk.idle; busy = h.desk.busy; acks = λ i e. cc; begun = h.desk.begun; most = h.desk.most; some = h.desk.some; done = h.desk.done; ended = h.desk.ended };
      warden = h.warden;
      reader = h.reader;
      bag = h.bag;
    },
  )

  -- all but f have it
  ending : {z : Seen} → z.desk.busy ≡ true → n ≤ count n z.desk.acks + f → Followed n f liar k j z → Followed n f liar k j (desked n k (quiet (close z.desk) ended) z)
  ending {z} busy enough (w, reach, h) =
      let step : Step n f liar w (new_office (closed w.office) w) = M.ends (omega (arith, h.desk.busy busy)) (omega (arith, within n z.desk.acks w.office.acks (λ i _. h.desk.acks i))) in (
        new_office (closed w.office) w,
        M.then reach step,
        record {
          desk = record {
            edition = h.desk.edition;
            value = h.desk.value;
            idle = λ _. refl;
            busy = λ e. cc;
            acks = h.desk.acks;
            begun = λ e one below. Memᴰ.tail (h.desk.begun e one below);
            most = omega (arith, h.desk.most);
            some = λ e u m. ⊎_elim (λ is. absurd (not_begun k e u (Ended k z.desk.now.edition) refl is)) (h.desk.some e u) (Memᴰ.cases_cons m);
            done = λ e one below. ⊎_elim (λ (is : e ≡ w.office.edition). Memᴰ.head (ap (Ended k) (is ∙ h.desk.edition))) (λ (apart : e ≡ w.office.edition → ⊥). Memᴰ.tail (h.desk.done e one (omega (arith, h.desk.busy busy)))) (cases_eq e w.office.edition);
            ended = let old = h.desk.ended in let order = h.desk.busy busy in let is = h.desk.edition in grind arith;
          };
          warden = λ i. warden_log (Ended k z.desk.now.edition) refl (h.warden i);
          reader = reader_log (Ended k z.desk.now.edition) (record { asks = refl; retries = refl; by = refl }) h.reader;
          bag = still_mean n f liar k j step h.bag;
        },
      )

  began_right : {z : Seen} → z.desk.busy ≡ false → Followed n f liar k j z → RightBegan z.log k (suc z.desk.now.edition)
  began_right {z} idle (w, reach, h) =
      record {
        some = omega arith;
        next = λ e v m. let below = begun_most k e v z.log m in (omega (arith, h.desk.most, h.desk.edition), h.desk.done e (h.desk.some e v m) (omega (arith, h.desk.most, h.desk.idle idle)));
      }

  ended_right : {z : Seen} → z.desk.busy ≡ true → n ≤ count n z.desk.acks + f → Followed n f liar k j z → RightEnded n f liar z.log k z.desk.now.edition
  ended_right {z} busy enough (w, reach, h) =
      record {
        begun = (w.office.value z.desk.now.edition, h.desk.begun z.desk.now.edition (omega (arith, h.desk.busy busy, h.desk.edition)) (omega (arith, h.desk.edition)));
        once = λ m. omega (arith, ended_most k z.desk.now.edition z.log m, h.desk.ended, h.desk.busy busy, h.desk.edition);
        settled = omega (arith, within n z.desk.acks (λ i. liar i || leb z.desk.now.edition (high i k z.log)) (λ i _ e. each i ((reach_kept reach).office.taken i (h.desk.acks i e))));
      }
    where
      each : (i : ℕ) → has liar w.warden w.office.edition i ≡ true → (liar i || leb z.desk.now.edition (high i k z.log)) ≡ true
      each i e = let is = h.desk.edition in let top = (h.warden i).high in grind arith

  -- it goes on as the model can, and what is seen is right
  abbrev Desked : Seen → steps.Step Desk OfficeDone → Type 0
  Desked z o = Followed n f liar k j (desked n k o z) × Rights n f liar (office_event k o.next o.outcome) z.log

  pub write_follows : {z : Seen} (v : List ℕ) → Followed n f liar k j z → Desked z (write_on z.desk v)
  write_follows {z} v at = go (write_case z.desk v)
    where
      go : {o : steps.Step Desk OfficeDone} → WriteCase z.desk v o → Desked z o
      go (write_begins idle low) = (beginning v idle at, (began_right idle at, tt))
      go write_refused = (at, tt)

  pub tick_follows : {z : Seen} → Followed n f liar k j z → Desked z (office_tick z.desk)
  tick_follows {z} at =
      cond_both z.desk.busy (resend z.desk) (quiet z.desk no_writing) (Desked z)
      (λ _. (stays n f liar k j (packets n office k (Each (Take z.desk.now))) [] (λ w _ h. take_each w k z.desk.now (λ _. (omega (arith, h.desk.edition), sym h.desk.value))) tt tt at, tt))
      (λ _. (at, tt))

  pub office_follows : {z : Seen} (from to : ℕ) (m : Message) → Memᴰ (record { from = from; to = to; note = k; message = m }) z.bag → Followed n f liar k j z → Desked z (office_on n f z.desk from m)
  office_follows {z} from to m sent at = go (office_case n f z.desk from m) sent
    where
      go : {m : Message} {o : steps.Step Desk OfficeDone} → OfficeCase n f z.desk from m o → Memᴰ (record { from = from; to = to; note = k; message = m }) z.bag → Desked z o
      go (took_counts below on short) sent = (acking from to below on sent at, tt)
      go (took_ends below on all) sent =
          let acked = acking from to below on sent at in
          let enough = leb-true n (count n (put from true z.desk.acks) + f) all in
          (ending on enough acked, (ended_right on enough acked, tt))
      go (office_passes e) sent = (at, tt)

  -- for another note
  abbrev Beside : ℕ → Seen → steps.Step Desk OfficeDone → Type 0
  Beside k' z o = Followed n f liar k j (also (packets n office k' o.sends) (office_event k' o.next o.outcome) z)

  module _ {z : Seen} (k' : ℕ) (apart : k ≡ k' → ⊥) (at : Followed n f liar k j z) where
    pub write_beside : (d : Desk) (v : List ℕ) → Beside k' z (write_on d v)
    write_beside d v = go (write_case d v)
      where
        go : {o : steps.Step Desk OfficeDone} → WriteCase d v o → Beside k' z o
        go (write_begins idle low) =
            stays n f liar k j (packets n office k' (Each (Take (begin_writing d v).next.now))) (Began k' (suc d.now.edition) v ∷ []) (λ w _ _. take_each w k' (begin_writing d v).next.now (λ same. absurd (apart (sym same)))) (record { begun = rw (ne_eqb k k' apart); ended = refl; took = λ i. refl }, tt) (record { asks = refl; retries = refl; by = refl }, tt) at
        go write_refused = at

    pub tick_beside : (d : Desk) → Beside k' z (office_tick d)
    tick_beside d =
        cond_both d.busy (resend d) (quiet d no_writing) (Beside k' z)
        (λ _. stays n f liar k j (packets n office k' (Each (Take d.now))) [] (λ w _ _. take_each w k' d.now (λ same. absurd (apart (sym same)))) tt tt at)
        (λ _. at)

    pub office_beside : (d : Desk) (from : ℕ) (m : Message) → Beside k' z (office_on n f d from m)
    office_beside d from m = go (office_case n f d from m)
      where
        go : {m : Message} {o : steps.Step Desk OfficeDone} → OfficeCase n f d from m o → Beside k' z o
        go (took_counts below on short) = at
        go (took_ends below on all) =
            stays n f liar k j [] (Ended k' d.now.edition ∷ []) (λ w _ _. nothing_sent n f liar k j w) (record { begun = refl; ended = rw (ne_eqb k k' apart); took = λ i. refl }, tt) (record { asks = refl; retries = refl; by = refl }, tt) at
        go (office_passes e) = at
