-- A round comes to be told by all but f, and is decided, by the honest alone.
-- Assumes nothing.
use Rattle.std.proofs.Common.{◌≡◌, ℕ, suc, ◌+◌, ◌-◌, ◌*◌, ◌<◌, ◌≤◌, Bool, true, false, cond, ltb, ◌⊎◌, [], ◌++◌, sym, refl, ap, ◌∙◌, subst, inl, inr, ⊎_elim, arith}
use mathlib.Core.List.Memᴰ
use mathlib.Core.List.{Memᴰ}
use Rattle.std.proofs.lemmas.Bool.{cond_both, cond-true, cond-false, cases_Bool, lt-ltb, leb-true, leb-false}
use Rattle.register.specs.Count.{count}
use Rattle.register.specs.Note.{Note}
use Rattle.register.specs.Rule.{answers, Reading, pick}
use Rattle.register.specs.Progress.{missing}
use Rattle.register.proofs.Put.{put_same}
use Rattle.register.proofs.Moves.{Nearer, descend, who, fall, enough}
use Rattle.protocol.specs.Message.{Ask, Told, Packet}
use Rattle.protocol.specs.Step.{Step, quiet, refuse}
use Rattle.protocol.specs.Reader.{ReaderDone, retried, no_reading, heard, Reader, begin_round, decided, ask_again, awaits_told, hear, decide, settle_round, told_on}
use Rattle.protocol.specs.Log.{Log}
use Rattle.protocol.specs.System.{reader_event}
use Rattle.protocol.proofs.Packets.{at_each}
use Rattle.protocol.proofs.PartyCases.{DecideCase, decide_reads, decide_waits, decide_doubts, decide_case}
use Rattle.protocol.proofs.Sound.{SoundReader}
use Rattle.protocol.proofs.Follows as F
use Rattle.protocol.proofs.Ways.{honest_so}
use Rattle.protocol.proofs.Rounds.{waits, same}
use Rattle.protocol_tables.proofs.Refines as T
use Rattle.protocol_files.specs.System.{System, by_reader, reader_ticks, reader_hears, Run}
use Rattle.protocol_files.specs.Progress.{Way, here, Onward, Awake, Decision, sure, doubtful, open_still, Decided, RoundEnds}
use Rattle.protocol_files.proofs.Shown.{plain}
use Rattle.protocol_files.proofs.Refines.{followed}
use Rattle.protocol_files.proofs.Ways.{Fair, one, along, way_run}
use Rattle.protocol_files.proofs.Wakes.{all_wake}
use Rattle.protocol_files.proofs.Hearings.{answered, answers_way, answers_onward, answers_awake, answer_sent}

module _ (n f : ℕ) (liar : ℕ → Bool) (least : 4 * f < n) (few : count n liar ≤ f) (s : System) (j k r c m : ℕ) (own : liar j ≡ false) where
  abbrev pub ask_to : ℕ → Packet
  ask_to i = record { from = j; to = i; note = k; message = Ask r }

  abbrev told_by : ℕ → Note → Packet
  told_by i x = record { from = i; to = j; note = k; message = Told r x }

  -- the reader is in the round r of its reading of k
  pub record In (q : Reader) : Type 0 where
    pub busy : q.busy ≡ true
    pub note : q.note ≡ k
    pub round : q.round ≡ r
    pub next : q.next ≡ m
    pub left : q.left ≡ c

  -- it waits for more, and each warden is at work and can hear it ask
  pub record Waiting (u : System) : Type 0 where
    pub run : Run n f liar u
    pub reader : In (u.reader j)
    pub short : decided n f (u.reader j) ≡ false
    pub asked : (i : ℕ) → i < n → Memᴰ (ask_to i) u.bag
    pub awake : (i : ℕ) → i < n → liar i ≡ false → Awake (u.warden i)
    pub office : u.office ≡ s.office
    pub log : u.log ≡ s.log

  -- it has decided: q is the reader as it was then
  pub record Ends (q : Reader) (t : System) : Type 0 where
    pub reader : In q
    pub told : decided n f q ≡ true
    pub office : t.office ≡ s.office
    pub next : t.reader j ≡ (decide q (pick n f q.replies n)).next
    pub log : t.log ≡ reader_event j (decide q (pick n f q.replies n)).next (decide q (pick n f q.replies n)).outcome ++ s.log

  abbrev pub Over : System → Type 0
  Over u = (t : System) × (q : Reader) × Way n f liar u t × Ends q t

  first : {u v : System} → Way n f liar u v → Over v → Over u
  first way (t, q, rest, ends) = (t, q, along n f liar way rest, ends)

  abbrev unheard : System → ℕ
  unheard u = missing n liar (u.reader j).replies.heard

  -- the round is decided, or one fewer is missing
  abbrev Further : System → Type 0
  Further u = Over u ⊎ Nearer Waiting Over unheard u

  -- the reader hears it
  module _ (u : System) (i : ℕ) (x : Note) (below : i < n) (fair : liar i ≡ false) (new : (u.reader j).replies.heard i ≡ false) (h : Waiting u) where
    abbrev q : Reader
    q = hear i x (u.reader j)

    hears : Memᴰ (told_by i x) u.bag → Fair n f liar u (by_reader n j (settle_round n f q) u)
    hears at =
        subst (λ (o : Step Reader ReaderDone). Fair n f liar u (by_reader n j o u))
        (cond-true (ltb i n) (told_on n f (u.reader j) i k r x) (refuse (u.reader j) 1) (lt-ltb i n below) ∙ cond-true (awaits_told n f i k r (u.reader j)) (settle_round n f q) (refuse (u.reader j) 3) (waits n f i k r (u.reader j) h.reader.busy h.reader.note h.reader.round new h.short))
        (reader_hears j (told_by i x) own at refl, honest_so liar i fair)

    inside : In q
    inside = record { busy = h.reader.busy; note = h.reader.note; round = h.reader.round; next = h.reader.next; left = h.reader.left }

    -- what it decides
    abbrev last : Step Reader ReaderDone
    last = decide q (pick n f q.replies n)

    decides : decided n f q ≡ true → Fair n f liar u (by_reader n j last u) → Further u
    decides all move =
        inl (by_reader n j last u, q, one n f liar move, record { reader = inside; told = all; office = h.office; next = put_same j last.next u.reader; log = ap (λ (l : Log). reader_event j last.next last.outcome ++ l) h.log })

    counts : decided n f q ≡ false → Fair n f liar u (by_reader n j (quiet q heard) u) → Further u
    counts short move = inr (
      by_reader n j (quiet q heard) u,
      record { run = way_run n f liar h.run (one n f liar move); reader = rw is inside; short = rw is short; asked = h.asked; awake = h.awake; office = h.office; log = h.log },
      rw is (fall n liar (u.reader j).replies.heard i below fair new),
      first (one n f liar move),
    )
      where
        is : (by_reader n j (quiet q heard) u).reader j ≡ q
        is = put_same j q u.reader

    listens : Fair n f liar u (by_reader n j (settle_round n f q) u) → Further u
    listens =
        cond_both (decided n f q) last (quiet q heard) (λ (o : Step Reader ReaderDone). Fair n f liar u (by_reader n j o u) → Further u) decides counts

  -- a warden tells what it has
  module _ (u : System) (i : ℕ) (below : i < n) (fair : liar i ≡ false) (h : Waiting u) where
    abbrev telling : System
    telling = answered n f liar least u h.run i below fair (h.awake i below fair) (ask_to i) (h.asked i below) refl (honest_so liar j own)

    tells_way : Way n f liar u telling
    tells_way = answers_way n f liar least u h.run i below fair (h.awake i below fair) (ask_to i) (h.asked i below) refl (honest_so liar j own)

    tells : Waiting telling
    tells =
        let on = answers_onward n f liar least u h.run i below fair (h.awake i below fair) (ask_to i) (h.asked i below) refl (honest_so liar j own) in
        record {
          run = way_run n f liar h.run tells_way;
          reader = h.reader;
          short = h.short;
          asked = λ i below. on.bag (ask_to i) (h.asked i below);
          awake = answers_awake n f liar least u h.run i below fair (h.awake i below fair) (ask_to i) (h.asked i below) refl (honest_so liar j own) h.awake;
          office = h.office;
          log = h.log;
        }

    told_at : Memᴰ (told_by i ((u.warden i).memory.notes.at k)) telling.bag
    told_at = answer_sent n f liar least u h.run i below fair (h.awake i below fair) (ask_to i) (h.asked i below) refl (honest_so liar j own) j (Told r ((u.warden i).memory.notes.at k)) refl

  goes_further : (u : System) → Waiting u → Further u
  goes_further u h =
      let (i, below, fair, new) = who n liar (u.reader j).replies.heard (omega (arith, enough n liar (u.reader j).replies.heard, leb-false n (answers n (u.reader j).replies + f) h.short)) in
      let x : Note = (u.warden i).memory.notes.at k in
      let v = telling u i below fair h in
      let w = tells u i below fair h in
      ⊎_elim
      (λ done. inl (first (tells_way u i below fair h) done))
      (λ (v, w, fewer, back). inr (v, w, fewer, λ done. first (tells_way u i below fair h) (back done)))
      (listens v i x below fair new w (hears v i x below fair new w (told_at u i below fair h)))

  pub hears_all : (u : System) → Waiting u → Over u
  hears_all u h = descend Waiting Over unheard goes_further (suc (unheard u)) u h (omega arith)

-- a reader that reads is sound in every run
pub reader_sound : (n f : ℕ) (liar : ℕ → Bool) → 4 * f < n → (s : System) → Run n f liar s → (j : ℕ) → SoundReader n f (s.reader j)
reader_sound n f liar least s run j =
    let (o, w, b, h) = followed n f liar least run in
    (F.run_kept n f liar least (T.refines n f liar (plain n f liar o w b s) h.run)).readers j

-- what was decided
decision : (j : ℕ) (q : Reader) (s t : System) (xs : Log) → q.busy ≡ true → q.note ≡ (s.reader j).note → q.left ≡ (s.reader j).left → {c : Reading} {o : Step Reader ReaderDone} → DecideCase q c o → t.reader j ≡ o.next → t.log ≡ reader_event j o.next o.outcome ++ (xs ++ s.log) → Decision j s t xs
decision j q s t xs busy note left (decide_reads x) next log = sure x (rw (← note) log)
decision j q s t xs busy note left (decide_waits more) next log = open_still (ap (λ (q : Reader). q.busy) next ∙ busy) (rw (← left) more) log
decision j q s t xs busy note left (decide_doubts last) next log = doubtful (sym left ∙ last) (rw (← note) log)

-- all are at work: it asks again, and hears all but f
module _ (n f : ℕ) (liar : ℕ → Bool) (least : 4 * f < n) (few : count n liar ≤ f) (s : System) (run : Run n f liar s) (awake : (i : ℕ) → i < n → liar i ≡ false → Awake (s.warden i)) (j : ℕ) (own : liar j ≡ false) (busy : (s.reader j).busy ≡ true) (short : decided n f (s.reader j) ≡ false) where
  abbrev k : ℕ
  k = (s.reader j).note

  abbrev r : ℕ
  r = (s.reader j).round

  abbrev c : ℕ
  c = (s.reader j).left

  abbrev m : ℕ
  m = (s.reader j).next

  abbrev u : System
  u = by_reader n j (ask_again (s.reader j)) s

  move : Fair n f liar s u
  move =
      subst (λ (o : Step Reader ReaderDone). Fair n f liar s (by_reader n j o s))
      (cond-true (s.reader j).busy (cond (decided n f (s.reader j)) (begin_round k (c - 1) retried (s.reader j)) (ask_again (s.reader j))) (quiet (s.reader j) no_reading) busy ∙ cond-false (decided n f (s.reader j)) (begin_round k (c - 1) retried (s.reader j)) (ask_again (s.reader j)) short)
      (reader_ticks j own, refl)

  waiting : Waiting n f liar least few s j k r c m own u
  waiting =
      record {
        run = way_run n f liar run (one n f liar move);
        reader = rw (put_same j (s.reader j) s.reader) (record { busy = busy; note = refl; round = refl; next = refl; left = refl });
        short = rw (put_same j (s.reader j) s.reader) short;
        asked = λ i below. Memᴰ.append_left s.bag (at_each n (ask_to n f liar least few s j k r c m own) i below);
        awake = awake;
        office = refl;
        log = refl;
      }

  asking : Over n f liar least few s j k r c m own s
  asking = let (t, q, way, ends) = hears_all n f liar least few s j k r c m own u waiting in (t, q, along n f liar (one n f liar move) way, ends)

pub round_ends_lem : RoundEnds
round_ends_lem n f liar least few s run j own busy = ⊎_elim already first (cases_Bool (decided n f (s.reader j)))
  where
    already : decided n f (s.reader j) ≡ true → (t : System) × Decided n f liar j s t
    already so = (s, record { way = here; note = refl; round = refl; next = refl; left = refl; told = leb-true n (answers n (s.reader j).replies + f) so; office = refl; more = []; decision = open_still busy ((reader_sound n f liar least s run j).more busy so) refl })

    -- u: all have come up
    asks : (u : System) → Way n f liar s u → Onward s u → u.office ≡ s.office → ((i : ℕ) → i < n → liar i ≡ false → Awake (u.warden i)) → decided n f (s.reader j) ≡ false → (t : System) × Decided n f liar j s t
    asks u way on office awake short =
        let is : u.reader j ≡ s.reader j = ap (λ r. r j) on.reader in
        let (t, q, rest, ends) = asking n f liar least few u (way_run n f liar run way) awake j own (ap (λ (q : Reader). q.busy) is ∙ busy) (ap (decided n f) is ∙ short) in
        let kept = same q (pick n f q.replies n) in (
          t,
          record {
            way = along n f liar way rest;
            note = ap (λ (q : Reader). q.note) ends.next ∙ (kept.note ∙ (ends.reader.note ∙ ap (λ (q : Reader). q.note) is));
            round = ap (λ (q : Reader). q.round) ends.next ∙ (kept.round ∙ (ends.reader.round ∙ ap (λ (q : Reader). q.round) is));
            next = ap (λ (q : Reader). q.next) ends.next ∙ (kept.next ∙ (ends.reader.next ∙ ap (λ (q : Reader). q.next) is));
            left = ap (λ (q : Reader). q.left) ends.next ∙ (kept.left ∙ (ends.reader.left ∙ ap (λ (q : Reader). q.left) is));
            told = rw (ap (λ (q : Reader). q.replies) ends.next ∙ kept.replies) (leb-true n (answers n q.replies + f) ends.told);
            office = ends.office ∙ office;
            more = on.more;
            decision = decision j q s t on.more ends.reader.busy (ends.reader.note ∙ ap (λ (q : Reader). q.note) is) (ends.reader.left ∙ ap (λ (q : Reader). q.left) is) (decide_case q (pick n f q.replies n)) ends.next (ends.log ∙ ap (λ (l : Log). reader_event j (decide q (pick n f q.replies n)).next (decide q (pick n f q.replies n)).outcome ++ l) on.log);
          },
        )

    first : decided n f (s.reader j) ≡ false → (t : System) × Decided n f liar j s t
    first short = let (u, wake) = all_wake n f liar least s run in asks u wake.way wake.onward wake.office wake.awake short
