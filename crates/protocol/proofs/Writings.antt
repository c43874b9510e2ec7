-- A writing comes to its end by the honest alone.
-- Assumes nothing.
use Rattle.std.proofs.Common.{◌≡◌, ℕ, suc, ◌+◌, ◌<◌, ◌≤◌, Bool, true, false, ltb, ◌⊎◌, List, [], ◌∷◌, ◌++◌, sym, refl, ap, ◌∙◌, subst, inl, inr, ⊎_elim, append_assoc, arith}
use mathlib.Core.List.Memᴰ
use mathlib.Core.List.{Memᴰ}
use Rattle.std.proofs.lemmas.Bool.{cond_both, cond-true, eq-eqb, lt-ltb, leb-false}
use Rattle.register.specs.Count.{count}
use Rattle.register.specs.Note.{Note}
use Rattle.register.specs.Rule.{quorum}
use Rattle.register.proofs.Put.{put_same}
use Rattle.register.proofs.Moves.{Nearer, descend, enough, fall, who}
use Rattle.protocol.specs.Message.{office, Take, Took, Packet, One, packets}
use Rattle.protocol.specs.Step.{Step, Done, Refused, quiet, refuse}
use Rattle.protocol.specs.Warden.{WardenDone, taken, warden_on}
use Rattle.protocol.specs.Office.{OfficeDone, no_writing, counted, ended, Desk, resend, acknowledge, close, settle, awaits_took, took_on}
use Rattle.protocol.specs.Log.{Event, Ended, Log}
use Rattle.protocol.specs.System.{warden_event, System, by_office, by_warden}
use Rattle.protocol.specs.System as S
use Rattle.protocol.specs.Progress.{Way, here, unwritten, WritingEnds}
use Rattle.protocol.proofs.Packets.{at_each}
use Rattle.protocol.proofs.Follows.{run_kept}
use Rattle.protocol.proofs.Ways.{honest_so, Fair, by}

module _ (n f : ℕ) (liar : ℕ → Bool) (few : count n liar ≤ f) (s : System) (k : ℕ) (x : Note) where
  -- the office sends it to the warden i; the warden says that it took it
  abbrev take_to : ℕ → Packet
  take_to i = record { from = office; to = i; note = k; message = Take x }

  abbrev took_from : ℕ → Packet
  took_from i = record { from = i; to = office; note = k; message = Took x.edition }

  -- it is under way, and each warden can take it
  record Writing (u : System) : Type 0 where
    busy : (u.office k).busy ≡ true
    now : (u.office k).now ≡ x
    short : quorum n f (count n (u.office k).acks) ≡ false
    takes : (i : ℕ) → i < n → Memᴰ (take_to i) u.bag
    reader : u.reader ≡ s.reader
    more : List Event
    log : u.log ≡ more ++ s.log

  abbrev Over : System → Type 0
  Over u = (t : System) × (xs : List Event) × Way n f liar u t × (t.log ≡ Ended k x.edition ∷ (xs ++ s.log)) × (t.reader ≡ s.reader)

  first : {u v : System} → Fair n f liar u v → Over v → Over u
  first m (t, xs, way, log, reader) = (t, xs, by n f liar m way, log, reader)

  -- a warden takes it, and says so
  abbrev took : ℕ → System → System
  took i u = by_warden n i k (warden_on (u.warden i k) office (Take x)) u

  took_sent : (y : Note) → (warden_on y office (Take x)).sends ≡ One office (Took x.edition)
  took_sent y =
      cond_both (ltb y.edition x.edition) (record { next = x; sends = One office (Took x.edition); outcome = Done taken }) (record { next = y; sends = One office (Took x.edition); outcome = Refused 2 }) (λ (o : Step Note WardenDone). o.sends ≡ One office (Took x.edition))
      (λ _. refl)
      (λ _. refl)

  takes_it : (u : System) (i : ℕ) → i < n → liar i ≡ false → Writing u → Fair n f liar u (took i u) × Writing (took i u) × Memᴰ (took_from i) (took i u).bag
  takes_it u i l honest h = (
    (S.warden_hears i (take_to i) l honest (h.takes i l) refl, refl),
    record { busy = h.busy; now = h.now; short = h.short; takes = λ i' l. Memᴰ.append_right (packets n i k o.sends) (h.takes i' l); reader = h.reader; more = xs ++ h.more; log = ap (λ (l : Log). xs ++ l) h.log ∙ sym (append_assoc xs h.more s.log) },
    Memᴰ.append_left u.bag (rw (took_sent (u.warden i k)) (Memᴰ.head refl)),
  )
    where
      o : Step Note WardenDone
      o = warden_on (u.warden i k) office (Take x)

      xs : List Event
      xs = warden_event i k o.next o.outcome

  -- the office hears it
  heard : (u : System) (i : ℕ) → i < n → liar i ≡ false → (u.office k).acks i ≡ false → Writing u → Memᴰ (took_from i) u.bag → Fair n f liar u (by_office n k (settle n f (acknowledge i (u.office k))) u)
  heard u i l honest new h at =
      subst (λ (o : Step Desk OfficeDone). Fair n f liar u (by_office n k o u))
      (cond-true (ltb i n) (took_on n f (u.office k) i x.edition) (refuse (u.office k) 1) (lt-ltb i n l) ∙ cond-true (awaits_took i x.edition (u.office k)) (settle n f (acknowledge i (u.office k))) (refuse (u.office k) 4) (rw (h.busy, h.now, eq-eqb x.edition x.edition refl, new)))
      (S.office_hears (took_from i) at refl, honest_so liar i honest)

  -- so the writing ends, or it goes on with one more who was heard
  abbrev Further : System → Type 0
  Further u = Over u ⊎ Nearer Writing Over (unwritten n liar k) u

  settles : (u : System) (i : ℕ) → i < n → liar i ≡ false → (u.office k).acks i ≡ false → Writing u → Fair n f liar u (by_office n k (settle n f (acknowledge i (u.office k))) u) → Further u
  settles u i l honest new h =
      cond_both (quorum n f (count n d.acks)) (quiet (close d) ended) (quiet d counted) (λ (o : Step Desk OfficeDone). Fair n f liar u (by_office n k o u) → Further u)
      (λ _ m. inl (by_office n k (quiet (close d) ended) u, h.more, by n f liar m here, rw (h.now, h.log), h.reader))
      (λ short m. inr (
        by_office n k (quiet d counted) u,
        record { busy = rw (put_same k d u.office) h.busy; now = rw (put_same k d u.office) h.now; short = rw (put_same k d u.office) short; takes = h.takes; reader = h.reader; more = h.more; log = h.log },
        rw (put_same k d u.office) (fall n liar (u.office k).acks i l honest new),
        first m,
      ))
    where
      d : Desk
      d = acknowledge i (u.office k)

  -- somebody who is honest is missing, since else there would be enough
  further : (u : System) → Writing u → Further u
  further u h =
      let (i, l, honest, new) = who n liar (u.office k).acks (omega (arith, enough n liar (u.office k).acks, leb-false n (count n (u.office k).acks + f) h.short)) in
      let (m, h', at) = takes_it u i l honest h in
      ⊎_elim (λ over. inl (first m over)) (λ (v, w, fewer, back). inr (v, w, fewer, λ over. first m (back over))) (settles (took i u) i l honest new h' (heard (took i u) i l honest new h' at))

pub writing_ends_lem : WritingEnds
writing_ends_lem n f liar least few s run k busy =
    let x : Note = (s.office k).now in
    let m : Fair n f liar s (by_office n k (resend (s.office k)) s) = subst (λ (o : Step Desk OfficeDone). Fair n f liar s (by_office n k o s)) (cond-true (s.office k).busy (resend (s.office k)) (quiet (s.office k) no_writing) busy) (S.office_ticks k, refl) in
    let u : System = by_office n k (resend (s.office k)) s in
    first n f liar few s k x m
    (descend (Writing n f liar few s k x) (Over n f liar few s k x) (unwritten n liar k) (further n f liar few s k x) (suc (unwritten n liar k u)) u
    (record {
      busy = rw (put_same k (s.office k) s.office) busy;
      now = rw (put_same k (s.office k) s.office);
      short = rw (put_same k (s.office k) s.office) ((run_kept n f liar least run).desks k busy);
      takes = λ i l. Memᴰ.append_left s.bag (at_each n (take_to n f liar few s k x) i l);
      reader = refl;
      more = [];
      log = refl;
    })
    (omega arith))
