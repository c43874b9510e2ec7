-- What a warden does, or what becomes of it, the model can do; and what is seen of it is right.
-- Assumes nothing.
use Rattle.std.proofs.Common.{◌≡◌, ℕ, ◌<◌, ◌≤◌, Bool, true, false, ltb, List, [], ◌∷◌, ◌++◌, sym, refl, ap, inr, ⊎_elim, arith}
use mathlib.Core.List.Memᴰ
use mathlib.Core.List.{Memᴰ}
use Rattle.std.proofs.lemmas.Bool.{cases_eq, cases_Bool, both_ways, ne_eqb}
use Rattle.register.specs.Count.{put}
use Rattle.register.specs.Note.{Note, none}
use Rattle.register.specs.Rule.{Replies}
use Rattle.register.specs.Model.{note, Warden, stored, emptied, Round, offering, lapsing, World, new_warden, new_round, Step}
use Rattle.register.specs.Model as M
use Rattle.register.proofs.Put.{put_all, put_apart, put_both, put_same}
use Rattle.register.proofs.Keeps.{Written, reach_kept}
use Rattle.protocol.specs.Message.{office, Message, Take, Took, Ask, Told, Packet, packets}
use Rattle.protocol.specs.Step.{Done, Refused, refuse}
use Rattle.protocol.specs.Step as steps
use Rattle.protocol.specs.Warden.{WardenDone, ask_on, warden_on}
use Rattle.protocol.specs.Log.{Log, Lost}
use Rattle.protocol.specs.Log as L
use Rattle.protocol.specs.Promise.{RightTook}
use Rattle.protocol.specs.System.{warden_event}
use Rattle.protocol.proofs.Logs.{Rights}
use Rattle.protocol.proofs.PartyCases.{takes_note, WardenCase, warden_takes, warden_had, warden_answers, warden_passes, warden_case}
use Rattle.protocol.proofs.Shows.{ShowsWarden, ShowsRound, Means, Seen, also, wardened, Followed, AllMean, more_mean, still_mean, desk_log, warden_log, reader_log, stays}

module _ (n f : ℕ) (liar : ℕ → Bool) (k j : ℕ) where
  one_sent : (w : World) (p : Packet) → Means n liar k j w p → AllMean n f liar k j w (p ∷ [])
  one_sent w p means p' at = rw (Memᴰ.eq_of_singleton at) means

  -- the warden i says to the party `to`, about the note k'
  abbrev says : (i to k' : ℕ) → Message → Packet
  says i to k' m = record { from = i; to = to; note = k'; message = m }

  -- it takes a later edition
  taking : {z : Seen} (i : ℕ) (x : Note) → Memᴰ (says office i k (Take x)) z.bag → (z.warden i).edition < x.edition → Followed n f liar k j z → Followed n f liar k j (wardened n i k (takes_note x) z)
  taking {z} i x m late (w, reach, h) = (
    new_warden i c w,
    M.then reach step,
    record {
      desk = desk_log event refl refl h.desk;
      warden = put_apart (λ i' c y. ShowsWarden k i' c y (event ∷ z.log)) i c x w.warden z.warden mine (λ i' apart. warden_log event (rw (ne_eqb i' i apart)) (h.warden i'));
      reader = reader_log event (record { asks = refl; retries = refl; by = refl }) h.reader;
      bag = more_mean n f liar k j (new_warden i c w) (says i office k (Took x.edition) ∷ []) (one_sent (new_warden i c w) (says i office k (Took x.edition)) (λ _. inr (λ _. rw (put_same i c w.warden) (omega arith)))) (still_mean n f liar k j step h.bag);
    },
  )
    where
      event : L.Event
      event = L.Took i k x.edition

      written : Written w.office x
      written = h.bag (says office i k (Take x)) m refl refl

      c : Warden
      c = stored (note w.office x.edition) (w.warden i)

      was : (w.warden i).store.edition ≡ (z.warden i).edition
      was = ap (λ (y : Note). y.edition) (h.warden i).store

      step : Step n f liar w (new_warden i c w)
      step = M.stores i x.edition written.0 (omega (arith, was))

      mine : ShowsWarden k i c x (event ∷ z.log)
      mine =
          record {
            store = λ t. record { edition = x.edition; value = sym written.1 t };
            held = let old = (h.warden i).held in grind arith;
            high = let old = (h.warden i).high in grind arith;
          }

  -- it tells the reader
  telling : {z : Seen} (i r to : ℕ) → i < n → liar i ≡ false → liar j ≡ false → Memᴰ (says j to k (Ask r)) z.bag → Followed n f liar k j z → Followed n f liar k j (also (says i j k (Told r (z.warden i)) ∷ []) [] z)
  telling {z} i r to l honest fair m (w, reach, h) = (
    v,
    M.then reach step,
    record {
      desk = h.desk;
      warden = h.warden;
      reader = record {
        shut = λ r' up. put_all (λ r' c. (w.round r').live ≡ false → c.live ≡ false) r c w.round (λ shut. shut) (λ r' shut. shut) r' (h.reader.shut r' up);
        now = λ busy same. put_all (λ r' c. ShowsRound k j (w.round r') z.reader.replies z.log → ShowsRound k j c z.reader.replies z.log) r c w.round (λ old. record { live = old.live; replies = old.replies; since = old.since; tops = old.tops; lapsed = old.lapsed }) (λ r' old. old) z.reader.round (h.reader.now busy same);
        reads = h.reader.reads;
        left = h.reader.left;
      };
      bag = more_mean n f liar k j v (says i j k (Told r (z.warden i)) ∷ []) (one_sent v (says i j k (Told r (z.warden i))) (λ _. inr (λ _ _ _. (rw (put_same r c w.round) live, rw (put_same r c w.round) said)))) (still_mean n f liar k j step h.bag);
    },
  )
    where
      live : (w.round r).live ≡ true
      live = h.bag (says j to k (Ask r)) m refl fair refl

      c : Round
      c = offering i (w.warden i).store (w.round r)

      v : World
      v = new_round r c w

      step : Step n f liar w v
      step = M.tells r i honest live

      said : Memᴰ (z.warden i) (c.offered i)
      said = rw (put_same i ((w.warden i).store ∷ (w.round r).offered i) (w.round r).offered) (Memᴰ.head (sym (h.warden i).store))

  -- it loses what it had
  pub losing : {z : Seen} (i : ℕ) → Followed n f liar k j z → Followed n f liar k j (record { desk = z.desk; warden = put i none z.warden; reader = z.reader; bag = z.bag; log = Lost i ∷ z.log })
  losing {z} i (w, reach, h) = (
    v,
    M.then reach step,
    record {
      desk = desk_log (Lost i) refl refl h.desk;
      warden = put_both (λ i' c y. ShowsWarden k i' c y (Lost i ∷ z.log)) i (emptied (w.warden i)) none w.warden z.warden mine (λ i'. warden_log (Lost i) refl (h.warden i'));
      reader = record { shut = h.reader.shut; now = λ busy same. lapse (h.reader.now busy same); reads = h.reader.reads; left = λ busy same. omega (arith, h.reader.left busy same) };
      bag = still_mean n f liar k j step h.bag;
    },
  )
    where
      v : World
      v = record { office = w.office; warden = put i (emptied (w.warden i)) w.warden; round = λ r. lapsing i (ltb 0 (w.warden i).high) (w.round r) }

      step : Step n f liar w v
      step = M.loses i

      mine : ShowsWarden k i (emptied (w.warden i)) none (Lost i ∷ z.log)
      mine = record { store = refl; held = grind arith; high = let old = (h.warden i).high in grind arith }

      lapse : {c : Round} {p : Replies} → ShowsRound k j c p z.log → ShowsRound k j (lapsing i (ltb 0 (w.warden i).high) c) p (Lost i ∷ z.log)
      lapse {c} {p} h' =
          record {
            live = h'.live;
            replies = h'.replies;
            since = h'.since;
            tops = h'.tops;
            lapsed = λ i' e. let old = h'.lapsed i' in let high = (h.warden i').high in grind arith;
          }

  -- it took what was begun, and what is later than it had
  took_right : {z : Seen} (i : ℕ) (x : Note) → Memᴰ (says office i k (Take x)) z.bag → (z.warden i).edition < x.edition → Followed n f liar k j z → RightTook z.log i k x.edition
  took_right {z} i x m late (w, reach, h) =
      let (below, _) = h.bag (says office i k (Take x)) m refl refl in
      let was = ap (λ (y : Note). y.edition) (h.warden i).store in
      record { begun = (w.office.value x.edition, h.desk.begun x.edition (omega arith) below); later = omega (arith, (h.warden i).held) }

  -- it goes on as the model can, and what is seen is right
  abbrev Wardened : ℕ → Seen → steps.Step Note WardenDone → Type 0
  Wardened i z o = Followed n f liar k j (wardened n i k o z) × Rights n f liar (warden_event i k o.next o.outcome) z.log

  -- it has what it had
  unchanged : (z : Seen) (i : ℕ) (ps : List Packet) → Followed n f liar k j (also ps [] z) → Followed n f liar k j (record { desk = z.desk; warden = put i (z.warden i) z.warden; reader = z.reader; bag = ps ++ z.bag; log = z.log })
  unchanged z i ps (w, reach, h) =
      (w, reach, record { desk = h.desk; warden = put_all (λ i y. ShowsWarden k i (w.warden i) y z.log) i (z.warden i) z.warden (h.warden i) h.warden; reader = h.reader; bag = h.bag })

  -- it had this edition, or a later one
  had : {z : Seen} (i : ℕ) (x : Note) → x.edition ≤ (z.warden i).edition → Followed n f liar k j z → Followed n f liar k j (also (says i office k (Took x.edition) ∷ []) [] z)
  had {z} i x early at =
      stays n f liar k j (says i office k (Took x.edition) ∷ []) []
      (λ w reach h. one_sent w (says i office k (Took x.edition)) (λ _. inr (λ _. omega (arith, ap (λ (y : Note). y.edition) (h.warden i).store, ((reach_kept reach).warden i).top))))
      tt tt at

  -- it tells what it has, to this reader or to somebody else
  answering : {z : Seen} (i from to r : ℕ) → i < n → liar i ≡ false → Memᴰ (says from to k (Ask r)) z.bag → Followed n f liar k j z → Wardened i z (ask_on (z.warden i) from r)
  answering {z} i from to r l honest m at =
      (unchanged z i (told ∷ []) (⊎_elim (λ (mine : from ≡ j). ⊎_elim (λ strange. aside (λ _ fair. absurd (both_ways (liar j) fair strange))) (λ fair. rw mine (telling i r to l honest fair (rw mine at m) at)) (cases_Bool (liar j))) (λ apart. aside (λ mine _. absurd (apart mine))) (cases_eq from j)), tt)
    where
      told : Packet
      told = says i from k (Told r (z.warden i))

      aside : (from ≡ j → liar j ≡ false → ⊥) → Followed n f liar k j (also (told ∷ []) [] z)
      aside out = stays n f liar k j (told ∷ []) [] (λ w _ _. one_sent w told (λ _. inr (λ mine fair _. absurd (out mine fair)))) tt tt at

  pub warden_follows : {z : Seen} (i from to : ℕ) (m : Message) → i < n → liar i ≡ false → to ≡ i → Memᴰ (says from to k m) z.bag → Followed n f liar k j z → Wardened i z (warden_on (z.warden i) from m)
  warden_follows {z} i from to m l honest to_is sent at = go (warden_case (z.warden i) from m) sent
    where
      go : {m : Message} {o : steps.Step Note WardenDone} → WardenCase (z.warden i) from m o → Memᴰ (says from to k m) z.bag → Wardened i z o
      go (warden_takes x own late) sent =
          let sent' : Memᴰ (says office i k (Take x)) z.bag = rw (own, to_is) at sent in
          (taking i x sent' late at, (took_right i x sent' late at, tt))
      go (warden_had x own early) sent = (unchanged z i (says i office k (Took x.edition) ∷ []) (had i x early at), tt)
      go (warden_answers r) sent = answering i from to r l honest sent at
      go warden_passes sent = (unchanged z i [] at, tt)

  -- for another note
  abbrev Beside : (i k' : ℕ) → Seen → steps.Step Note WardenDone → Type 0
  Beside i k' z o = Followed n f liar k j (also (packets n i k' o.sends) (warden_event i k' o.next o.outcome) z)

  module _ {z : Seen} (i k' : ℕ) (apart : k ≡ k' → ⊥) (at : Followed n f liar k j z) where
    pub warden_beside : (y : Note) (from : ℕ) (m : Message) → Beside i k' z (warden_on y from m)
    warden_beside y from m = go (warden_case y from m)
      where
        took : (x : Note) (w : World) → AllMean n f liar k j w (says i office k' (Took x.edition) ∷ [])
        took x w = one_sent w (says i office k' (Took x.edition)) (λ _. inr (λ same. absurd (apart (sym same))))

        go : {m : Message} {o : steps.Step Note WardenDone} → WardenCase y from m o → Beside i k' z o
        go (warden_takes x own late) =
            stays n f liar k j (says i office k' (Took x.edition) ∷ []) (L.Took i k' x.edition ∷ []) (λ w _ _. took x w) (record { begun = refl; ended = refl; took = λ i'. rw (ne_eqb k k' apart) (grind arith) }, tt) (record { asks = refl; retries = refl; by = refl }, tt) at
        go (warden_had x own early) = stays n f liar k j (says i office k' (Took x.edition) ∷ []) [] (λ w _ _. took x w) tt tt at
        go (warden_answers r) = stays n f liar k j (says i from k' (Told r y) ∷ []) [] (λ w _ _. one_sent w (says i from k' (Told r y)) (λ _. inr (λ _ _ same. absurd (apart (sym same))))) tt tt at
        go warden_passes = at

  -- who lies, or is a stranger
  pub lying : {z : Seen} (p : Packet) → ((w : World) → Means n liar k j w p) → Followed n f liar k j z → Followed n f liar k j (also (p ∷ []) [] z)
  lying p means at = stays n f liar k j (p ∷ []) [] (λ w _ _. one_sent w p (means w)) tt tt at
