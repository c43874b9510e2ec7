-- A reading of a note that is not being written comes to its end by the honest alone.
-- Assumes nothing.
use Rattle.std.proofs.Common.{◌≡◌, ℕ, suc, ◌+◌, ◌-◌, ◌*◌, ◌<◌, ◌≤◌, Bool, true, false, cond, ◌||◌, List, [], ◌∷◌, ◌++◌, sym, refl, ap, ◌∙◌, subst, ⊎_elim, arith}
use mathlib.Core.List.Memᴰ
use Rattle.std.proofs.lemmas.Bool.{cond-true, cond-false, eq-eqb, leb-true, lt-leb, le-leb}
use Rattle.register.specs.Count.{count}
use Rattle.register.specs.Note.{Note}
use Rattle.register.specs.Rule.{Replies, silence, reply, answers, quorum, IsRead, Reading, Found, Nothing, pick}
use Rattle.register.specs.Model.{note, Office, Warden, Round, opened, offering, hearing, World, new_round, Step, Reach}
use Rattle.register.specs.Model as M
use Rattle.register.specs.Promise.{Full, Reads}
use Rattle.register.proofs.Counting.{within, either, nobody}
use Rattle.register.proofs.Put.{put_same}
use Rattle.register.proofs.Moves.{Telling, telling}
use Rattle.register.proofs.Stands as Q
use Rattle.register.proofs.Picks.{pick_found, pick_nothing}
use Rattle.protocol.specs.Step.{Done, quiet, refuse}
use Rattle.protocol.specs.Step as steps
use Rattle.protocol.specs.Reader.{ReaderDone, asked, retried, no_reading, Reader, last_round, more_rounds, used_up, in_round, begin_round, decided, ask_again, decide}
use Rattle.protocol.specs.Log.{Event, Asked, Retried, Read, Unsure, Log, lapsed}
use Rattle.protocol.specs.Promise.{Few}
use Rattle.protocol.specs.System.{reader_event, System, by_reader, Run, then}
use Rattle.protocol.specs.System as S
use Rattle.protocol.specs.Progress.{Way, Decision, sure, doubtful, open_still, Decided, ReadingEnds, ReadingAnswers}
use Rattle.protocol.proofs.Logs.{behind_lapsed}
use Rattle.protocol.proofs.Packets.{at_each}
use Rattle.protocol.proofs.PartyCases.{opening}
use Rattle.protocol.proofs.Shows.{Shows, seen, Outside, warden_log}
use Rattle.protocol.proofs.ReaderSteps.{doubts_right}
use Rattle.protocol.proofs.Follows.{run_kept}
use Rattle.protocol.proofs.Ways.{Fair, by, along, way_run}
use Rattle.protocol.proofs.Rounds.{Waiting, ask_to, hears_all, round_ends_lem}

-- a round r, begun in the world w, in which honest wardens alone were heard, and told p
record Calm (n f : ℕ) (liar : ℕ → Bool) (w : World) (r : ℕ) (p : Replies) : Type 0 where
  world : World
  reach : Reach n f liar world
  office : world.office ≡ w.office
  warden : world.warden ≡ w.warden
  live : (world.round r).live ≡ true
  since : (world.round r).since ≡ w.office.ended
  lapsed : (i : ℕ) → (world.round r).lapsed i ≡ M.behind (w.warden i)
  replies : (world.round r).replies ≡ p

module _ (n f : ℕ) (liar : ℕ → Bool) (w : World) (r : ℕ) where
  opens_one : Reach n f liar w → (w.round r).live ≡ false → Calm n f liar w r silence
  opens_one reach shut =
      let is = put_same r (opened w.office w.warden) w.round in
      record {
        world = new_round r (opened w.office w.warden) w;
        reach = M.then reach (M.opens r shut);
        office = refl;
        warden = refl;
        live = ap (λ (c : Round). c.live) is;
        since = ap (λ (c : Round). c.since) is;
        lapsed = λ i. ap (λ (c : Round). c.lapsed i) is;
        replies = ap (λ (c : Round). c.replies) is;
      }

  -- one more says what it has, and is heard
  hears_one : (i : ℕ) (p : Replies) (x : Note) → x ≡ (w.warden i).store → i < n → liar i ≡ false → p.heard i ≡ false → Calm n f liar w r p → Calm n f liar w r (reply i x p)
  hears_one i p x is l honest new m =
      record {
        world = t.heard;
        reach = M.then (M.then m.reach t.first) t.second;
        office = t.office ∙ m.office;
        warden = t.warden ∙ m.warden;
        live = ap (λ (c : Round). c.live) t.round ∙ m.live;
        since = ap (λ (c : Round). c.since) t.round ∙ m.since;
        lapsed = λ i. ap (λ (c : Round). c.lapsed i) t.round ∙ m.lapsed i;
        replies = ap (λ (c : Round). c.replies) t.round ∙ (ap (λ (y : Note). reply i y (m.world.round r).replies) has ∙ ap (reply i x) m.replies);
      }
    where
      t : Telling n f liar m.world r i
      t = telling n f liar m.world r i l honest m.live (rw m.replies new)

      has : (m.world.warden i).store ≡ x
      has = ap (λ (c : ℕ → Warden). (c i).store) m.warden ∙ sym is

  -- it comes to the last note that was written
  comes_to : 4 * f < n → w.office.ended ≡ w.office.edition → count n (λ i. liar i || M.behind (w.warden i)) ≤ f → (p : Replies) → quorum n f (answers n p) ≡ true → Calm n f liar w r p → (c : Reading) → pick n f p n ≡ c → c ≡ Found (note w.office w.office.edition)
  comes_to least calm few p so m c picked = go c picked
    where
      full : Full n f liar (m.world.round r)
      full =
          record {
            enough = rw m.replies (leb-true n (answers n p + f) so);
            few = omega (arith, within n (λ i. liar i || (m.world.round r).lapsed i) (λ i. liar i || M.behind (w.warden i)) (λ i _ e. let is = m.lapsed i in rw is at e));
          }

      stands : Reads n f m.world.office (m.world.round r)
      stands = Q.reads n f liar least m.world m.reach r full

      last : Note
      last = note w.office w.office.edition

      is_read : IsRead n f p last
      is_read =
          subst (λ (p : Replies). IsRead n f p last) m.replies
          (subst (λ (x : Note). IsRead n f (m.world.round r).replies x) (ap (note m.world.office) (m.since ∙ calm) ∙ ap (λ (o : Office). note o w.office.edition) m.office) (stands.sure (ap (λ (o : Office). o.edition) m.office ∙ (sym calm ∙ sym m.since))))

      go : (c : Reading) → pick n f p n ≡ c → c ≡ Found last
      go (Found x) picked = ap Found (stands.unique x last (rw m.replies (pick_found n f p n x picked)) (rw m.replies is_read))
      go Nothing picked = absurd (pick_nothing n f p picked last is_read)

-- a round that begins, by an event of its own, while the note is not being written reads the last note that was written
module _ (n f : ℕ) (liar : ℕ → Bool) (least : 4 * f < n) (s : System) (j k c : ℕ) (own : liar j ≡ false) (how : ReaderDone) (x : Event) (event : reader_event j (in_round k c (s.reader j)) (Done how) ≡ x ∷ []) (outside : Outside k x) (calm : (s.office k).busy ≡ false) (few : Few n f liar j k (x ∷ s.log)) where
  abbrev begun : System
  begun = by_reader n j (opening k c how (s.reader j)) s

  round_reads : Run n f liar s → (t : System) × Way n f liar begun t × (t.log ≡ Read j k (s.office k).now.edition (s.office k).now.value ∷ begun.log)
  round_reads run = let (w, reach, h) = (run_kept n f liar least run).followed k j in go w reach h
    where
      r : ℕ
      r = (s.reader j).next

      q : Reader
      q = in_round k c (s.reader j)

      honest_few : count n liar ≤ f
      honest_few = omega (arith, either n liar (λ i. lapsed i j k (x ∷ s.log)))

      go : (w : World) → Reach n f liar w → Shows n liar k j w (seen k j s) → (t : System) × Way n f liar begun t × (t.log ≡ Read j k (s.office k).now.edition (s.office k).now.value ∷ begun.log)
      go w reach h =
          let (t, q', way, ends) = hears_all n f liar honest_few begun j k r c (suc r) own X hearing_one begun waiting in
          let found = comes_to n f liar w r least (h.desk.idle calm) behind_few q'.replies ends.told ends.reader.fits (pick n f q'.replies n) refl in
          (t, way, ends.log ∙ (ap (λ (c : Reading). reader_event j (decide q' c).next (decide q' c).outcome ++ begun.log) found ∙ ap (λ (x : Event). x ∷ begun.log) (said q' ends.reader.note)))
        where
          X : Replies → Type 0
          X = Calm n f liar w r

          hearing_one : (i : ℕ) (p : Replies) → i < n → liar i ≡ false → p.heard i ≡ false → Calm n f liar w r p → Calm n f liar w r (reply i (s.warden i k) p)
          hearing_one i p l honest new m = hears_one n f liar w r i p (s.warden i k) (sym (h.warden i).store) l honest new m

          behind_few : count n (λ i. liar i || M.behind (w.warden i)) ≤ f
          behind_few = omega (arith, within n (λ i. liar i || M.behind (w.warden i)) (λ i. liar i || lapsed i j k (x ∷ s.log)) (λ i _ e. let up = lapse i in grind arith))
            where
              lapse : (i : ℕ) → M.behind (w.warden i) ≡ true → lapsed i j k (x ∷ s.log) ≡ true
              lapse i e = behind_lapsed i j k (x ∷ s.log) (let d = warden_log x (outside.took i) (h.warden i) in let held = d.held in let high = d.high in grind arith)

          said : (q' : Reader) → q'.note ≡ k → Read j q'.note w.office.edition (w.office.value w.office.edition) ≡ Read j k (s.office k).now.edition (s.office k).now.value
          said q' is = let edition = h.desk.edition in let value = h.desk.value in rw (is, edition, value)

          waiting : Waiting n f liar honest_few begun j k r c (suc r) own X hearing_one begun
          waiting =
              record {
                reader = rw (put_same j q s.reader) (record { busy = refl; note = refl; round = refl; next = refl; left = refl; fits = opens_one n f liar w r reach (h.reader.shut r (omega arith)) });
                short = rw (put_same j q s.reader) (lt-leb n (answers n silence + f) (omega (arith, nobody n)));
                asked = λ i l. Memᴰ.append_left s.bag (at_each n (ask_to n f liar honest_few begun j k r c (suc r) own X hearing_one) i l);
                office = refl;
                warden = refl;
                log = refl;
              }

-- a reader whose numbers are not used up begins the round
pub begins : (k c : ℕ) (how : ReaderDone) (q : Reader) → q.next < last_round → begin_round k c how q ≡ opening k c how q
begins k c how q fresh = cond-false (used_up q) (refuse q 5) (opening k c how q) (lt-leb last_round q.next fresh)

pub reading_answers_lem : ReadingAnswers
reading_answers_lem n f liar least s run j k own fresh calm few =
    subst (λ (o : steps.Step Reader ReaderDone). Few n f liar j k (by_reader n j o s).log → (t : System) × Way n f liar (by_reader n j o s) t × (t.log ≡ Read j k (s.office k).now.edition (s.office k).now.value ∷ (by_reader n j o s).log)) (sym (begins k more_rounds asked (s.reader j) fresh))
    (λ few. round_reads n f liar least s j k more_rounds own asked (Asked j k) refl (record { begun = refl; ended = refl; took = λ i. refl }) calm few run)
    few

-- who was behind in the last round, or is when the next begins
few_again : (n f : ℕ) (liar : ℕ → Bool) (j k : ℕ) (l : Log) → Few n f liar j k l → Few n f liar j k (Retried j k ∷ l)
few_again n f liar j k l few =
    omega (arith, within n (λ i. liar i || lapsed i j k (Retried j k ∷ l)) (λ i. liar i || lapsed i j k l) (λ i _ e. let up = behind_lapsed i j k l in let mine = eq-eqb j j refl in grind arith))

-- a tick begins the next round
module _ (n f : ℕ) (liar : ℕ → Bool) (least : 4 * f < n) (j : ℕ) (own : liar j ≡ false) where
  ticks : (u : System) (k : ℕ) → Run n f liar u → (u.reader j).note ≡ k → (u.reader j).busy ≡ true → (u.reader j).next < last_round → decided n f (u.reader j) ≡ true → (u.office k).busy ≡ false → Few n f liar j k u.log →
      (t : System) × Way n f liar u t × (x : Note) × (t.log ≡ Read j k x.edition x.value ∷ (Retried j k ∷ u.log))
  ticks u k run is busy fresh full calm few =
      let (t, way, log) = round_reads n f liar least u j k c own retried (Retried j k) refl (record { begun = refl; ended = refl; took = λ i. refl }) calm (few_again n f liar j k u.log few) run in
      (t, by n f liar move way, (u.office k).now, log)
    where
      c : ℕ
      c = (u.reader j).left - 1

      next : steps.Step Reader ReaderDone
      next = begin_round (u.reader j).note c retried (u.reader j)

      move : Fair n f liar u (by_reader n j (opening k c retried (u.reader j)) u)
      move =
          subst (λ (o : steps.Step Reader ReaderDone). Fair n f liar u (by_reader n j o u))
          (cond-true (u.reader j).busy (cond (decided n f (u.reader j)) next (ask_again (u.reader j))) (quiet (u.reader j) no_reading) busy ∙ (cond-true (decided n f (u.reader j)) next (ask_again (u.reader j)) full ∙ (ap (λ (k : ℕ). begin_round k c retried (u.reader j)) is ∙ begins k c retried (u.reader j) fresh)))
          (S.reader_ticks j own, refl)

-- the present round first; and then, if need be, another
pub reading_ends_lem : ReadingEnds
reading_ends_lem n f liar least s run j own busy calm few chance =
    let (t, way, decided) = round_ends_lem n f liar least honest_few s run j own busy in
    go t way decided decided.decision
  where
    k : ℕ
    k = (s.reader j).note

    honest_few : count n liar ≤ f
    honest_few = omega (arith, either n liar (λ i. lapsed i j k s.log))

    go : (t : System) → Way n f liar s t → Decided n f j s t → Decision j s t → (t : System) × Way n f liar s t × (x : Note) × (xs : List Event) × (t.log ≡ Read j k x.edition x.value ∷ (xs ++ s.log))
    go t way d (sure x log) = (t, way, x, [], log)
    go t way d (doubtful last log) =
        let good = (run_kept n f liar least (way_run n f liar run way)).good in
        ⊎_elim
        (λ (more, _). absurd (omega arith))
        (λ no_writing. absurd (no_writing ((good [] s.log (Unsure j k) log).busy few)))
        chance
    go t way d (open_still on more log) =
        let kept = run_kept n f liar least (way_run n f liar run way) in
        let full = le-leb n (answers n (t.reader j).replies + f) d.told in
        let few_t : Few n f liar j k t.log = rw log few in
        ⊎_elim
        (λ (_, fresh).
        let (u, rest, x, said) = ticks n f liar least j own t k (way_run n f liar run way) d.note on (rw d.next fresh) full (rw d.office calm) few_t in
        (u, along n f liar way rest, x, Retried j k ∷ [], said ∙ ap (λ (l : Log). Read j k x.edition x.value ∷ (Retried j k ∷ l)) log))
        (λ no_writing.
        let (w, reach, h) = kept.followed k j in
        absurd (no_writing (rw log at (doubts_right n f liar k j least on d.note full w reach h ((kept.readers j).nothing on full) few_t))))
        chance
