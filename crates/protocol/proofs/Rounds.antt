-- A round comes to be told by all but f, and is decided, by the honest alone.
-- Assumes nothing.
use Rattle.std.proofs.Common.{◌≡◌, ℕ, suc, ◌+◌, ◌-◌, ◌<◌, ◌≤◌, Bool, true, false, cond, ltb, ◌⊎◌, ◌++◌, sym, refl, ap, ◌∙◌, subst, inl, inr, ⊎_elim, arith}
use mathlib.Core.List.Memᴰ
use mathlib.Core.List.{Memᴰ}
use Rattle.std.proofs.lemmas.Bool.{cond_both, cond-true, cond-false, cases_Bool, eq-eqb, lt-ltb, leb-true, leb-false}
use Rattle.register.specs.Count.{count}
use Rattle.register.specs.Note.{Note}
use Rattle.register.specs.Rule.{Replies, reply, answers, Reading, pick}
use Rattle.register.proofs.Put.{put_same, put_cell}
use Rattle.register.proofs.Moves.{Nearer, descend, who, fall, enough}
use Rattle.protocol.specs.Message.{Ask, Told, Packet}
use Rattle.protocol.specs.Step.{Step, quiet, refuse}
use Rattle.protocol.specs.Warden.{warden_on}
use Rattle.protocol.specs.Reader.{ReaderDone, retried, no_reading, heard, Reader, begin_round, decided, ask_again, awaits_told, hear, decide, settle_round, told_on}
use Rattle.protocol.specs.Log.{Log}
use Rattle.protocol.specs.System.{reader_event, System, by_warden, by_reader}
use Rattle.protocol.specs.System as S
use Rattle.protocol.specs.Progress.{Way, here, unheard, Decision, sure, doubtful, open_still, Decided, RoundEnds}
use Rattle.protocol.proofs.Packets.{at_each}
use Rattle.protocol.proofs.PartyCases.{DecideCase, decide_reads, decide_waits, decide_doubts, decide_case}
use Rattle.protocol.proofs.Follows.{run_kept}
use Rattle.protocol.proofs.Ways.{honest_so, Fair, by}

-- what is awaited
pub waits : (n f i k r : ℕ) (q : Reader) → q.busy ≡ true → q.note ≡ k → q.round ≡ r → q.replies.heard i ≡ false → decided n f q ≡ false → awaits_told n f i k r q ≡ true
waits n f i k r q busy note round new short = rw (busy, eq-eqb k q.note (sym note), eq-eqb r q.round (sym round), new, short)

-- X: what holds of the replies as long as honest wardens alone are heard
module _ (n f : ℕ) (liar : ℕ → Bool) (few : count n liar ≤ f) (s : System) (j k r c m : ℕ) (own : liar j ≡ false) (X : Replies → Type 0) (hearing : (i : ℕ) (p : Replies) → i < n → liar i ≡ false → p.heard i ≡ false → X p → X (reply i (s.warden i k) p)) where
  abbrev pub ask_to : ℕ → Packet
  ask_to i = record { from = j; to = i; note = k; message = Ask r }

  abbrev told_by : ℕ → Note → Packet
  told_by i x = record { from = i; to = j; note = k; message = Told r x }

  -- the reader is in the round r of its reading of k
  pub record In (q : Reader) : Type 0 where
    pub busy : q.busy ≡ true
    pub note : q.note ≡ k
    pub round : q.round ≡ r
    pub next : q.next ≡ m
    pub left : q.left ≡ c
    pub fits : X q.replies

  -- it waits for more, and each warden can hear it ask
  pub record Waiting (u : System) : Type 0 where
    pub reader : In (u.reader j)
    pub short : decided n f (u.reader j) ≡ false
    pub asked : (i : ℕ) → i < n → Memᴰ (ask_to i) u.bag
    pub office : u.office ≡ s.office
    pub warden : u.warden ≡ s.warden
    pub log : u.log ≡ s.log

  -- it has decided: q is the reader as it was then
  pub record Ends (q : Reader) (t : System) : Type 0 where
    pub reader : In q
    pub told : decided n f q ≡ true
    pub office : t.office ≡ s.office
    pub warden : t.warden ≡ s.warden
    pub next : t.reader j ≡ (decide q (pick n f q.replies n)).next
    pub log : t.log ≡ reader_event j (decide q (pick n f q.replies n)).next (decide q (pick n f q.replies n)).outcome ++ s.log

  abbrev pub Over : System → Type 0
  Over u = (t : System) × (q : Reader) × Way n f liar u t × Ends q t

  first : {u v : System} → Fair n f liar u v → Over v → Over u
  first move (t, q, way, ends) = (t, q, by n f liar move way, ends)

  -- a warden tells what it has
  abbrev telling : ℕ → System → System
  telling i u = by_warden n i k (warden_on (u.warden i k) j (Ask r)) u

  tells : (u : System) (i : ℕ) → i < n → liar i ≡ false → Waiting u → Fair n f liar u (telling i u) × Waiting (telling i u)
  tells u i l honest h = (
    (S.warden_hears i (ask_to i) l honest (h.asked i l) refl, honest_so liar j own),
    record { reader = h.reader; short = h.short; asked = λ i l. Memᴰ.tail (h.asked i l); office = h.office; warden = put_cell i k u.warden ∙ h.warden; log = h.log },
  )

  -- the reader hears it
  hears : (u : System) (i : ℕ) (x : Note) → i < n → liar i ≡ false → (u.reader j).replies.heard i ≡ false → Waiting u → Memᴰ (told_by i x) u.bag → Fair n f liar u (by_reader n j (settle_round n f (hear i x (u.reader j))) u)
  hears u i x l honest new h at =
      subst (λ (o : Step Reader ReaderDone). Fair n f liar u (by_reader n j o u))
      (cond-true (ltb i n) (told_on n f (u.reader j) i k r x) (refuse (u.reader j) 1) (lt-ltb i n l) ∙ cond-true (awaits_told n f i k r (u.reader j)) (settle_round n f (hear i x (u.reader j))) (refuse (u.reader j) 3) (waits n f i k r (u.reader j) h.reader.busy h.reader.note h.reader.round new h.short))
      (S.reader_hears j (told_by i x) own at refl, honest_so liar i honest)

  -- so the round is decided, or one fewer is missing
  abbrev Further : System → Type 0
  Further u = Over u ⊎ Nearer Waiting Over (unheard n liar j) u

  listens : (u : System) (i : ℕ) (x : Note) → i < n → liar i ≡ false → x ≡ s.warden i k → (u.reader j).replies.heard i ≡ false → Waiting u → Fair n f liar u (by_reader n j (settle_round n f (hear i x (u.reader j))) u) → Further u
  listens u i x l honest is new h =
      cond_both (decided n f q) (decide q (pick n f q.replies n)) (quiet q heard) (λ (o : Step Reader ReaderDone). Fair n f liar u (by_reader n j o u) → Further u)
      (λ all move. let o : Step Reader ReaderDone = decide q (pick n f q.replies n) in inl (by_reader n j o u, q, by n f liar move here, record { reader = inside; told = all; office = h.office; warden = h.warden; next = put_same j o.next u.reader; log = ap (λ (l : Log). reader_event j o.next o.outcome ++ l) h.log }))
      (λ short move. inr (
        by_reader n j (quiet q heard) u,
        record { reader = rw (put_same j q u.reader) inside; short = rw (put_same j q u.reader) short; asked = h.asked; office = h.office; warden = h.warden; log = h.log },
        rw (put_same j q u.reader) (fall n liar (u.reader j).replies.heard i l honest new),
        first move,
      ))
    where
      q : Reader
      q = hear i x (u.reader j)

      inside : In q
      inside = record { busy = h.reader.busy; note = h.reader.note; round = h.reader.round; next = h.reader.next; left = h.reader.left; fits = rw is (hearing i (u.reader j).replies l honest new h.reader.fits) }

  further : (u : System) → Waiting u → Further u
  further u h =
      let (i, l, honest, new) = who n liar (u.reader j).replies.heard (omega (arith, enough n liar (u.reader j).replies.heard, leb-false n (answers n (u.reader j).replies + f) h.short)) in
      let (move, h') = tells u i l honest h in
      let x : Note = u.warden i k in
      ⊎_elim
      (λ done. inl (first move done))
      (λ (v, w, fewer, back). inr (v, w, fewer, λ done. first move (back done)))
      (listens (telling i u) i x l honest (ap (λ (c : ℕ → ℕ → Note). c i k) h.warden) new h' (hears (telling i u) i x l honest new h' (Memᴰ.head refl)))

  pub hears_all : (u : System) → Waiting u → Over u
  hears_all u h = descend Waiting Over (unheard n liar j) further (suc (unheard n liar j u)) u h (omega arith)

-- what was decided
decision : (j : ℕ) (q : Reader) (s t : System) → q.busy ≡ true → q.note ≡ (s.reader j).note → q.left ≡ (s.reader j).left → {c : Reading} {o : Step Reader ReaderDone} → DecideCase q c o → t.reader j ≡ o.next → t.log ≡ reader_event j o.next o.outcome ++ s.log → Decision j s t
decision j q s t busy note left (decide_reads x) next log = sure x (rw (← note) log)
decision j q s t busy note left (decide_waits more) next log = open_still (ap (λ (q : Reader). q.busy) next ∙ busy) (rw (← left) more) log
decision j q s t busy note left (decide_doubts last) next log = doubtful (sym left ∙ last) (rw (← note) log)

-- a decision leaves the round as it was
pub record Same (q q' : Reader) : Type 0 where
  pub note : q'.note ≡ q.note
  pub round : q'.round ≡ q.round
  pub next : q'.next ≡ q.next
  pub left : q'.left ≡ q.left
  pub replies : q'.replies ≡ q.replies

pub same : (q : Reader) (c : Reading) → Same q (decide q c).next
same q c = go (decide_case q c)
  where
    go : {c : Reading} {o : Step Reader ReaderDone} → DecideCase q c o → Same q o.next
    go (decide_reads x) = record { note = refl; round = refl; next = refl; left = refl; replies = refl }
    go (decide_waits more) = record { note = refl; round = refl; next = refl; left = refl; replies = refl }
    go (decide_doubts last) = record { note = refl; round = refl; next = refl; left = refl; replies = refl }

-- it asks again, and hears all but f
module _ (n f : ℕ) (liar : ℕ → Bool) (few : count n liar ≤ f) (s : System) (j : ℕ) (own : liar j ≡ false) (busy : (s.reader j).busy ≡ true) where
  abbrev Anything : Replies → Type 0
  Anything p = Unit {0}

  asking : decided n f (s.reader j) ≡ false → (t : System) × Way n f liar s t × Decided n f j s t
  asking short =
      let (t, q, way, ends) = hears_all n f liar few s j k r c m own Anything (λ i p l honest new fits. tt) u waiting in
      let kept = same q (pick n f q.replies n) in (
        t,
        by n f liar move way,
        record {
          note = ap (λ (q : Reader). q.note) ends.next ∙ (kept.note ∙ ends.reader.note);
          round = ap (λ (q : Reader). q.round) ends.next ∙ (kept.round ∙ ends.reader.round);
          next = ap (λ (q : Reader). q.next) ends.next ∙ (kept.next ∙ ends.reader.next);
          left = ap (λ (q : Reader). q.left) ends.next ∙ (kept.left ∙ ends.reader.left);
          told = rw (ap (λ (q : Reader). q.replies) ends.next ∙ kept.replies) (leb-true n (answers n q.replies + f) ends.told);
          office = ends.office;
          warden = ends.warden;
          decision = decision j q s t ends.reader.busy ends.reader.note ends.reader.left (decide_case q (pick n f q.replies n)) ends.next ends.log;
        },
      )
    where
      k : ℕ
      k = (s.reader j).note

      r : ℕ
      r = (s.reader j).round

      c : ℕ
      c = (s.reader j).left

      m : ℕ
      m = (s.reader j).next

      u : System
      u = by_reader n j (ask_again (s.reader j)) s

      move : Fair n f liar s u
      move =
          subst (λ (o : Step Reader ReaderDone). Fair n f liar s (by_reader n j o s))
          (cond-true (s.reader j).busy (cond (decided n f (s.reader j)) (begin_round k (c - 1) retried (s.reader j)) (ask_again (s.reader j))) (quiet (s.reader j) no_reading) busy ∙ cond-false (decided n f (s.reader j)) (begin_round k (c - 1) retried (s.reader j)) (ask_again (s.reader j)) short)
          (S.reader_ticks j own, refl)

      waiting : Waiting n f liar few s j k r c m own Anything (λ i p l honest new fits. tt) u
      waiting =
          record {
            reader = rw (put_same j (s.reader j) s.reader) (record { busy = busy; note = refl; round = refl; next = refl; left = refl; fits = tt });
            short = rw (put_same j (s.reader j) s.reader) short;
            asked = λ i l. Memᴰ.append_left s.bag (at_each n (ask_to n f liar few s j k r c m own Anything (λ i p l honest new fits. tt)) i l);
            office = refl;
            warden = refl;
            log = refl;
          }

pub round_ends_lem : RoundEnds
round_ends_lem n f liar least few s run j own busy = ⊎_elim already (asking n f liar few s j own busy) (cases_Bool (decided n f (s.reader j)))
  where
    already : decided n f (s.reader j) ≡ true → (t : System) × Way n f liar s t × Decided n f j s t
    already so = (s, here, record { note = refl; round = refl; next = refl; left = refl; told = leb-true n (answers n (s.reader j).replies + f) so; office = refl; warden = refl; decision = open_still busy (((run_kept n f liar least run).readers j).more busy so) refl })
