-- A writing comes to its end by the honest alone.
-- Assumes nothing.
use Rattle.std.proofs.Common.{◌≡◌, ℕ, suc, ◌+◌, ◌*◌, ◌<◌, ◌≤◌, Bool, true, false, ltb, ◌⊎◌, [], ◌∷◌, sym, refl, ap, ◌∙◌, subst, inl, inr, ⊎_elim, arith}
use mathlib.Core.List.{Memᴰ}
use Rattle.std.proofs.lemmas.Bool.{cond_both, cond-true, eq-eqb, lt-ltb, leb-false}
use Rattle.register.specs.Count.{count}
use Rattle.register.specs.Note.{Note}
use Rattle.register.specs.Rule.{quorum}
use Rattle.register.specs.Progress.{missing}
use Rattle.register.proofs.Put.{put_same}
use Rattle.register.proofs.Moves.{Nearer, descend, enough, fall, who}
use Rattle.protocol.specs.Message.{office, Take, Took, Packet}
use Rattle.protocol.specs.Step.{Step, quiet, refuse}
use Rattle.protocol.specs.Office.{OfficeDone, counted, ended, Desk, acknowledge, close, settle, awaits_took, took_on}
use Rattle.protocol.specs.Log.{Ended, Log}
use Rattle.protocol.proofs.Packets.{at_each}
use Rattle.protocol.proofs.Ways.{honest_so}
use Rattle.protocol_tables.specs.Office.{Office, OfficeStep, keep_counting, office_ticks}
use Rattle.protocol_tables.proofs.Lifts.{in_post, posted}
use Rattle.protocol_files.specs.System.{System, has_ended, ended_news, by_office, office_posts, office_tick, office_hear, Run}
use Rattle.protocol_files.specs.Progress.{Way, Onward, Awake, Ends, WritingEnds}
use Rattle.protocol_files.proofs.OfficeStands.{ended_so}
use Rattle.protocol_files.proofs.Refines.{followed}
use Rattle.protocol_files.proofs.OfficeGoes.{news_front}
use Rattle.protocol_files.proofs.Ways.{Fair, one, along, way_run, further}
use Rattle.protocol_files.proofs.Wakes.{all_wake}
use Rattle.protocol_files.proofs.Counts.{run_sound}
use Rattle.protocol_files.proofs.Hearings.{took_sent, never_full, answered, answers_way, answers_onward, answers_awake, answer_sent}

-- once it is seen, an end is in the log
news_ended : (k e : ℕ) (l : Log) → has_ended k e (ended_news k e l) ≡ true
news_ended k e l = cond_both (has_ended k e l) l (Ended k e ∷ l) (λ (m : Log). has_ended k e m ≡ true) (λ so. so) (λ _. ended_so k e (Ended k e ∷ l) (Memᴰ.head refl))

module _ (n f : ℕ) (liar : ℕ → Bool) (least : 4 * f < n) (few : count n liar ≤ f) (s : System) (k : ℕ) (x : Note) where
  -- the office sends it to the warden i; the warden says that it took it
  abbrev take_to : ℕ → Packet
  take_to i = record { from = office; to = i; note = k; message = Take x }

  abbrev took_from : ℕ → Packet
  took_from i = record { from = i; to = office; note = k; message = Took x.edition }

  abbrev desk : System → Desk
  desk u = u.office.memory.desks.at k

  -- it is under way, and each warden is at work and can take it
  record Writing (u : System) : Type 0 where
    run : Run n f liar u
    onward : Onward s u
    up : u.office.up ≡ true
    busy : (desk u).busy ≡ true
    now : (desk u).now ≡ x
    takes : (i : ℕ) → i < n → Memᴰ (take_to i) u.bag
    awake : (i : ℕ) → i < n → liar i ≡ false → Awake (u.warden i)

  -- it has come to its end
  record Over (t : System) : Type 0 where
    onward : Onward s t
    up : t.office.up ≡ true
    now : (desk t).now ≡ x
    closed : (desk t).busy ≡ false
    ended : has_ended k x.edition t.log ≡ true

  abbrev Goal : System → Type 0
  Goal u = (t : System) × Way n f liar u t × Over t

  first : {u v : System} → Way n f liar u v → Goal v → Goal u
  first way (t, rest, over) = (t, along n f liar way rest, over)

  abbrev unwritten : System → ℕ
  unwritten u = missing n liar (desk u).acks

  -- the writing ends, or it goes on with one more who was heard
  abbrev Further : System → Type 0
  Further u = Goal u ⊎ Nearer Writing Goal unwritten u

  module _ (u : System) (i : ℕ) (below : i < n) (own : liar i ≡ false) (new : (desk u).acks i ≡ false) (h : Writing u) where
    abbrev more : Desk
    more = acknowledge i (desk u)

    abbrev counting : Step Desk OfficeDone → System
    counting st = by_office n k (keep_counting u.office.memory k st) u

    -- the office hears it
    heard : Memᴰ (took_from i) u.bag → Fair n f liar u (counting (settle n f more))
    heard at =
        subst (λ (st : Step Desk OfficeDone). Fair n f liar u (counting st))
        (cond-true (ltb i n) (took_on n f (desk u) i x.edition) (refuse (desk u) 1) (lt-ltb i n below) ∙ cond-true (awaits_took i x.edition (desk u)) (settle n f more) (refuse (desk u) 4) (rw (h.busy, h.now, eq-eqb x.edition x.edition refl, new)))
        (office_hear (took_from i) h.up at refl, honest_so liar i own)

    ends : Fair n f liar u (counting (quiet (close more) ended)) → Further u
    ends m = inl (
      counting (quiet (close more) ended),
      one n f liar m,
      record {
        onward = let (xs, is) = news_front k step u.log in further h.onward (record { reader = refl; bag = λ p at. at; more = xs; log = is });
        up = h.up;
        now = ap (λ (d : Desk). d.now) desk_is ∙ h.now;
        closed = ap (λ (d : Desk). d.busy) desk_is;
        ended = subst (λ (d : Desk). has_ended k x.edition (ended_news k d.now.edition u.log) ≡ true) (sym desk_is) (subst (λ (y : Note). has_ended k x.edition (ended_news k y.edition u.log) ≡ true) (sym h.now) (news_ended k x.edition u.log));
      },
    )
      where
        step : OfficeStep
        step = keep_counting u.office.memory k (quiet (close more) ended)

        desk_is : step.next.desks.at k ≡ close more
        desk_is = put_same k (close more) u.office.memory.desks.at

    counts : Fair n f liar u (counting (quiet more counted)) → Further u
    counts m = inr (
      counting (quiet more counted),
      record {
        run = way_run n f liar h.run (one n f liar m);
        onward = further h.onward (record { reader = refl; bag = λ p at. at; more = []; log = refl });
        up = h.up;
        busy = ap (λ (d : Desk). d.busy) desk_is ∙ h.busy;
        now = ap (λ (d : Desk). d.now) desk_is ∙ h.now;
        takes = h.takes;
        awake = h.awake;
      },
      rw desk_is (fall n liar (desk u).acks i below own new),
      first (one n f liar m),
    )
      where
        desk_is : (counting (quiet more counted)).office.memory.desks.at k ≡ more
        desk_is = put_same k more u.office.memory.desks.at

    settles : Fair n f liar u (counting (settle n f more)) → Further u
    settles =
        cond_both (quorum n f (count n more.acks)) (quiet (close more) ended) (quiet more counted) (λ (st : Step Desk OfficeDone). Fair n f liar u (counting st) → Further u) (λ _. ends) (λ _. counts)

  -- a warden takes it, and says so
  module _ (u : System) (i : ℕ) (below : i < n) (own : liar i ≡ false) (h : Writing u) where
    abbrev took : System
    took = answered n f liar least u h.run i below own (h.awake i below own) (take_to i) (h.takes i below) refl refl

    took_way : Way n f liar u took
    took_way = answers_way n f liar least u h.run i below own (h.awake i below own) (take_to i) (h.takes i below) refl refl

    took_writing : Writing took
    took_writing =
        let on = answers_onward n f liar least u h.run i below own (h.awake i below own) (take_to i) (h.takes i below) refl refl in
        record {
          run = way_run n f liar h.run took_way;
          onward = further h.onward on;
          up = h.up;
          busy = h.busy;
          now = h.now;
          takes = λ j below. on.bag (take_to j) (h.takes j below);
          awake = answers_awake n f liar least u h.run i below own (h.awake i below own) (take_to i) (h.takes i below) refl refl h.awake;
        }

    took_at : Memᴰ (took_from i) took.bag
    took_at =
        answer_sent n f liar least u h.run i below own (h.awake i below own) (take_to i) (h.takes i below) refl refl office (Took x.edition)
        (took_sent (u.warden i).memory.notes k x (never_full n f liar least u h.run i below own (h.awake i below own) (take_to i) (h.takes i below)))

  -- somebody who is honest is missing, since else there would be enough
  goes_further : (u : System) → Writing u → Further u
  goes_further u h =
      let (i, below, own, new) = who n liar (desk u).acks (omega (arith, enough n liar (desk u).acks, leb-false n (count n (desk u).acks + f) (run_sound n f liar least h.run h.up k h.busy))) in
      let v = took u i below own h in
      let w = took_writing u i below own h in
      ⊎_elim
      (λ goal. inl (first (took_way u i below own h) goal))
      (λ (v, w, fewer, back). inr (v, w, fewer, λ goal. first (took_way u i below own h) (back goal)))
      (settles v i below own new w (heard v i below own new w (took_at u i below own h)))

  all_take : (u : System) → Writing u → Goal u
  all_take u h = descend Writing Goal unwritten goes_further (suc (unwritten u)) u h (omega arith)

  -- it was sent, and all are at work
  from_there : (u : System) → Way n f liar s u → Run n f liar s → Onward s u → ((i : ℕ) → i < n → Memᴰ (take_to i) u.bag) → ((i : ℕ) → i < n → liar i ≡ false → Awake (u.warden i)) → u.office ≡ s.office → s.office.up ≡ true → (desk s).busy ≡ true → (desk s).now ≡ x →
      (t : System) × Ends n f liar k s t
  from_there u way run onward takes awake same up busy now =
      let (t, rest, over) = all_take u (record { run = way_run n f liar run way; onward = onward; up = ap (λ c. c.up) same ∙ up; busy = ap (λ c. (c.memory.desks.at k).busy) same ∙ busy; now = ap (λ c. (c.memory.desks.at k).now) same ∙ now; takes = takes; awake = awake }) in
      (t, record { way = along n f liar way rest; onward = over.onward; up = over.up; now = over.now ∙ sym now; closed = over.closed; ended = subst (λ (y : Note). has_ended k y.edition t.log ≡ true) (sym now) over.ended })

pub writing_ends_lem : WritingEnds
writing_ends_lem n f liar least few s run k up busy =
    let (o, w, b, h) = followed n f liar least run in
    let (t, wake) = all_wake n f liar least u (way_run n f liar run tick) in
    from_there n f liar least few s k x t (along n f liar tick wake.way) run
    (further (record { reader = refl; bag = in_post n (office_ticks m).letters s.bag; more = []; log = refl }) wake.onward)
    (λ i below. wake.onward.bag (to i) (posted n m.desks m.under_way s.bag k ((h.office.working up).order.listed k busy) (to i) (at_each n to i below)))
    wake.awake wake.office up busy refl
  where
    m : Office
    m = s.office.memory

    x : Note
    x = (m.desks.at k).now

    to : ℕ → Packet
    to i = record { from = office; to = i; note = k; message = Take x }

    u : System
    u = office_posts n (office_ticks m) s

    tick : Way n f liar s u
    tick = one n f liar (office_tick up, refl)
