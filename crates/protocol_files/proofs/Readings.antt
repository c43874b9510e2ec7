-- A reading that begins while all are at work, and the note is not being written, reads what was written last.
-- Assumes nothing.
use Rattle.std.proofs.Common.{◌≡◌, ℕ, suc, ◌+◌, ◌*◌, ◌<◌, ◌≤◌, Bool, true, false, List, [], ◌∷◌, ◌++◌, sym, refl, ap, ◌∙◌, subst, ⊎_elim, arith}
use mathlib.Core.List.Memᴰ
use mathlib.Core.List.{Memᴰ}
use Rattle.std.proofs.lemmas.Bool.{both_ways, false_from_ne_true, cases_lt, eq-eqb, lt-leb}
use Rattle.register.specs.Count.{count}
use Rattle.register.specs.Note.{Note}
use Rattle.register.specs.Rule.{silence, answers, Reading, Nothing, pick}
use Rattle.register.proofs.Counting.{either, nobody}
use Rattle.register.proofs.Notes.{note_path}
use Rattle.register.proofs.Put.{put_same}
use Rattle.register.proofs.Keeps.{reach_kept}
use Rattle.protocol.specs.Step.{Step}
use Rattle.protocol.specs.Reader.{ReaderDone, asked, Reader, more_rounds, in_round, decided}
use Rattle.protocol.specs.Log.{Event, Began, Ended, Asked, Read, Log, before_round, lapsed}
use Rattle.protocol.specs.Promise.{RightRead, Few, Busy}
use Rattle.protocol.specs.System.{reader_event}
use Rattle.protocol.proofs.Logs.{begun_most}
use Rattle.protocol.proofs.Laws.{good_logs}
use Rattle.protocol.proofs.Packets.{at_each}
use Rattle.protocol.proofs.PartyCases.{opening, DecideCase, decide_reads, decide_waits, decide_doubts, decide_case}
use Rattle.protocol.proofs.ReaderSteps.{doubts_right}
use Rattle.protocol.proofs.Readings.{begins}
use Rattle.protocol.proofs.Follows as F
use Rattle.protocol_tables.proofs.Refines as T
use Rattle.protocol_files.specs.System.{System, by_reader, reads, Run, then}
use Rattle.protocol_files.specs.Progress.{Way, AllUp, ReadingAnswers}
use Rattle.protocol_files.proofs.Shown.{plain}
use Rattle.protocol_files.proofs.Refines.{followed, holds}
use Rattle.protocol_files.proofs.Ways.{way_run}
use Rattle.protocol_files.proofs.Rounds.{Waiting, ask_to, hears_all, Ends}

-- nothing of k is being written, and x was written last
record Rests (k : ℕ) (x : Note) (l : Log) : Type 0 where
  begun : 1 ≤ x.edition → Memᴰ (Began k x.edition x.value) l
  most : (e : ℕ) (v : List ℕ) → Memᴰ (Began k e v) l → (1 ≤ e) × (e ≤ x.edition)
  ended : (e : ℕ) → 1 ≤ e → e ≤ x.edition → Memᴰ (Ended k e) l
  blank : x.edition ≡ 0 → x.value ≡ []

module _ (n f : ℕ) (liar : ℕ → Bool) (least : 4 * f < n) where
  -- so it is if the office at work is not writing it
  rests : (s : System) → Run n f liar s → s.office.up ≡ true → (k : ℕ) → (s.office.memory.desks.at k).busy ≡ false → Rests k (s.office.memory.desks.at k).now s.log
  rests s run up k off =
      let (o, w, b, h) = followed n f liar least run in
      let work = h.office.working up in
      let (world, reach, shows) = (F.run_kept n f liar least (T.refines n f liar (plain n f liar o w b s) h.run)).followed k 0 in
      let d = shows.desk in
      let idle : (o.desks.at k).busy ≡ false = false_from_ne_true (o.desks.at k).busy (λ on. both_ways (s.office.memory.desks.at k).busy off ((work.like.desk k).busy ∙ (h.office.stands.desk k).busy on)) in
      let all : world.office.ended ≡ world.office.edition = d.idle idle in
      let last : world.office.edition ≡ (o.desks.at k).now.edition = d.edition in
      subst (λ (x : Note). Rests k x s.log) (sym ((work.like.desk k).now ∙ (h.office.stands.desk k).now))
      (record {
        begun = λ some. subst (λ (v : List ℕ). Memᴰ (Began k (o.desks.at k).now.edition v) s.log) d.value (d.begun (o.desks.at k).now.edition some (omega arith));
        most = λ e v at. (d.some e v at, omega (arith, begun_most k e v s.log at, d.most));
        ended = λ e some below. d.done e some (omega arith);
        blank = λ none. sym d.value ∙ ap world.office.value none ∙ (reach_kept reach).office.blank;
      })

  -- the reader j has begun a round of its reading of k, of which nothing is being written
  module _ (j k : ℕ) (x : Note) (l : Log) (few : Few n f liar j k (Asked j k ∷ l)) (rest : Rests k x l) where
    before : before_round j (Asked j k ∷ l) ≡ l
    before = rw (eq-eqb j j refl)

    in_log : {y : Event} → Memᴰ y (Asked j k ∷ l) → (y ≡ Asked j k → ⊥) → Memᴰ y l
    in_log (Memᴰ.head is) other = absurd (other is)
    in_log (Memᴰ.tail at) other = at

    old : (e : ℕ) (v : List ℕ) → Memᴰ (Began k e v) (Asked j k ∷ l) → Memᴰ (Began k e v) l
    old e v at = in_log at (λ (is : Began k e v ≡ Asked j k). cc)

    -- so the round does not read nothing
    not_busy : Busy j k (Asked j k ∷ l) → ⊥
    not_busy (e, v, at, unfinished) =
        let (some, below) = rest.most e v (old e v at) in
        unfinished (subst (λ (m : Log). Memᴰ (Ended k e) m) (sym before) (rest.ended e some below))

    honest_few : count n liar ≤ f
    honest_few = omega (arith, either n liar (λ i. lapsed i j k (Asked j k ∷ l)))

    -- and what it reads is what was written last
    reads_last : (t : System) → Run n f liar t → (y : Note) → t.log ≡ Read j k y.edition y.value ∷ (Asked j k ∷ l) → y ≡ x
    reads_last t run y log = ⊎_elim some_written none_written (cases_lt 0 x.edition)
      where
        right : RightRead n f liar (Asked j k ∷ l) j k y.edition y.value
        right = holds n f liar least t run [] (Asked j k ∷ l) (Read j k y.edition y.value) log

        -- the same edition, and so the same value
        some_written : 0 < x.edition → y ≡ x
        some_written some =
            let late = right.fresh few x.edition (subst (λ (m : Log). Memᴰ (Ended k x.edition) m) (sym before) (rest.ended x.edition some (omega arith))) in
            ⊎_elim
            (λ at.
            let (_, below) = rest.most y.edition y.value (old y.edition y.value at) in
            let same : y.edition ≡ x.edition = omega arith in
            note_path y x same (one_value same (old y.edition y.value at) (rest.begun some)))
            (λ (none, _). absurd (omega arith))
            (right.written honest_few)
          where
            later : {z : Event} → Memᴰ z l → Memᴰ z t.log
            later {z} at = subst (λ (m : Log). Memᴰ z m) (sym log) (Memᴰ.tail (Memᴰ.tail at))

            one_value : y.edition ≡ x.edition → Memᴰ (Began k y.edition y.value) l → Memᴰ (Began k x.edition x.value) l → y.value ≡ x.value
            one_value same a b =
                (good_logs n f liar t.log (holds n f liar least t run)).one_value k y.edition y.value x.value (later a) (later (subst (λ (e : ℕ). Memᴰ (Began k e x.value) l) (sym same) b))

        none_written : x.edition ≤ 0 → y ≡ x
        none_written none =
            let zero_x : x.edition ≡ 0 = omega arith in
            ⊎_elim
            (λ at. let (some, below) = rest.most y.edition y.value (old y.edition y.value at) in absurd (omega arith))
            (λ (zero_y, empty). note_path y x (zero_y ∙ sym zero_x) (empty ∙ sym (rest.blank zero_x)))
            (right.written honest_few)

module _ (n f : ℕ) (liar : ℕ → Bool) (least : 4 * f < n) (s : System) (run : Run n f liar s) (all : AllUp n liar s) (j k : ℕ) (own : liar j ≡ false) (idle : (s.office.memory.desks.at k).busy ≡ false) (few : Few n f liar j k (Asked j k ∷ s.log)) where
  abbrev x : Note
  x = (s.office.memory.desks.at k).now

  abbrev begun : System
  begun = by_reader n j (opening k more_rounds asked (s.reader j)) s

  abbrev r : ℕ
  r = (s.reader j).next

  rest : Rests k x s.log
  rest = rests n f liar least s run all.office k idle

  enough_honest : count n liar ≤ f
  enough_honest = honest_few n f liar least j k x s.log few rest

  waiting : Run n f liar begun → Waiting n f liar least enough_honest begun j k r more_rounds (suc r) own begun
  waiting run =
      record {
        run = run;
        reader = rw is (record { busy = refl; note = refl; round = refl; next = refl; left = refl });
        short = rw is (lt-leb n (answers n silence + f) (omega (arith, nobody n)));
        asked = λ i below. Memᴰ.append_left s.bag (at_each n (ask_to n f liar least enough_honest begun j k r more_rounds (suc r) own) i below);
        awake = all.warden;
        office = refl;
        log = refl;
      }
    where
      is : begun.reader j ≡ in_round k more_rounds (s.reader j)
      is = put_same j (in_round k more_rounds (s.reader j)) s.reader

  -- a round that read nothing would not be right
  doubts : (t : System) → Run n f liar t → (q : Reader) → t.reader j ≡ q → q.busy ≡ true → q.note ≡ k → decided n f q ≡ true → pick n f q.replies n ≡ Nothing → t.log ≡ begun.log → ⊥
  doubts t run q is busy note full picked log =
      let (o, w, b, h) = followed n f liar least run in
      let (world, reach, shows) = (F.run_kept n f liar least (T.refines n f liar (plain n f liar o w b t) h.run)).followed k j in
      not_busy n f liar least j k x s.log few rest
      (subst (λ (l : Log). Busy j k l) log
      (doubts_right n f liar k j least (ap (λ (q : Reader). q.busy) is ∙ busy) (ap (λ (q : Reader). q.note) is ∙ note) (ap (decided n f) is ∙ full) world reach shows
      (ap (λ (q : Reader). pick n f q.replies n) is ∙ picked) (subst (λ (l : Log). Few n f liar j k l) (sym log) few)))

  abbrev Answer : System → Type 0
  Answer t = t.log ≡ Read j k x.edition x.value ∷ begun.log

  round_reads : Run n f liar begun → (t : System) × Way n f liar begun t × Answer t
  round_reads run =
      let (t, q, way, ends) = hears_all n f liar least enough_honest begun j k r more_rounds (suc r) own begun (waiting run) in
      (t, way, comes_to t (way_run n f liar run way) q ends (decide_case q (pick n f q.replies n)) refl ends.next ends.log)
    where
      comes_to : (t : System) → Run n f liar t → (q : Reader) → Ends n f liar least enough_honest begun j k r more_rounds (suc r) own q t → {c : Reading} {o : Step Reader ReaderDone} → DecideCase q c o → pick n f q.replies n ≡ c → t.reader j ≡ o.next → t.log ≡ reader_event j o.next o.outcome ++ begun.log → Answer t
      comes_to t run q ends (decide_reads y) picked next log =
          let said : t.log ≡ Read j k y.edition y.value ∷ begun.log = log ∙ ap (λ (k : ℕ). Read j k y.edition y.value ∷ begun.log) ends.reader.note in
          said ∙ ap (λ (y : Note). Read j k y.edition y.value ∷ begun.log) (reads_last n f liar least j k x s.log few rest t run y said)
      comes_to t run q ends (decide_waits more) picked next log = absurd (doubts t run q next ends.reader.busy ends.reader.note ends.told picked log)
      comes_to t run q ends (decide_doubts last) picked next log = absurd (omega (arith, ends.reader.left))

pub reading_answers_lem : ReadingAnswers
reading_answers_lem n f liar least s run all j k own fresh idle few =
    subst (λ (o : Step Reader ReaderDone). Run n f liar (by_reader n j o s) → Few n f liar j k (by_reader n j o s).log → (t : System) × Way n f liar (by_reader n j o s) t × (t.log ≡ Read j k (s.office.memory.desks.at k).now.edition (s.office.memory.desks.at k).now.value ∷ (by_reader n j o s).log)) (sym (begins k more_rounds asked (s.reader j) fresh))
    (λ begun few. round_reads n f liar least s run all j k own idle few begun)
    (then run (reads j k own)) few
