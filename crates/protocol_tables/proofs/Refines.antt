-- Every run with tables is a run without bounds.
-- Assumes nothing.
use Rattle.std.proofs.Common.{◌≡◌, ℕ, Bool, true, List, [], ◌∷◌, ◌++◌, map, sym, refl, ap, ◌∙◌, subst}
use mathlib.Core.List.{Memᴰ}
use Rattle.std.proofs.lemmas.Bool.{cond_both, cond-true}
use Rattle.register.specs.Count.{put}
use Rattle.register.specs.Note.{Note, none}
use Rattle.register.proofs.Put.{put_same, put_own, put_cell, put_map}
use Rattle.protocol.specs.Message.{office, Message, Take, Took, Told, Packet, One, Each, packets}
use Rattle.protocol.specs.Step.{Step, Done, Refused, quiet, refuse}
use Rattle.protocol.specs.Warden.{WardenDone, taken, warden_on}
use Rattle.protocol.specs.Office.{OfficeDone, no_writing, ended, Desk, begin_writing, resend, acknowledge, close}
use Rattle.protocol.specs.Log.{Log}
use Rattle.protocol.specs.System as plain
use Rattle.protocol.proofs.Follows as F
use Rattle.protocol.proofs.PartyCases.{takes_note, WardenCase, warden_takes, warden_had, warden_answers, warden_passes, warden_case, WriteCase, write_begins, write_refused, write_case, OfficeCase, took_counts, took_ends, office_passes, office_case}
use Rattle.protocol_tables.specs.Keep.{Keep, empty, room, store}
use Rattle.protocol_tables.specs.Warden.{keep_note, warden_keeps}
use Rattle.protocol_tables.specs.Office.{OfficeStep, post, leave, keep_writing, office_writes, keep_counting, office_hears, again}
use Rattle.protocol_tables.specs.System.{System, by_office, by_warden, unbounded, Move, writes, office_hear, warden_hear, reads, reader_ticks, reader_hears, office_restarts, reader_restarts, lies, loses, Run, begin, then, Refines, Holds}
use Rattle.protocol_tables.specs.System as T
use Rattle.protocol_tables.proofs.TableCases.{took_step}
use Rattle.protocol_tables.proofs.Orders.{Ordered, empty_ordered, started, write_ordered, hear_ordered}

module _ (n f : ℕ) (liar : ℕ → Bool) (s : System) where
  abbrev Plain : plain.System → Type 0
  Plain = plain.Run n f liar

  -- a step of the office that is stored: it is seen in the desk that was put there
  stored : (k : ℕ) (st : Step Desk OfficeDone) → Plain (plain.by_office n k st (unbounded s)) → Plain (record { office = put k st.next s.office.desks.at; warden = λ i. (s.warden i).at; reader = s.reader; bag = packets n office k st.sends ++ s.bag; log = plain.office_event k (put k st.next s.office.desks.at k) st.outcome ++ s.log })
  stored k st run = rw (put_same k st.next s.office.desks.at) run

  write_plain : (k : ℕ) (v : List ℕ) → Plain (unbounded s) → Plain (unbounded (by_office n k (office_writes s.office k v) s))
  write_plain k v run = go (write_case d v) (plain.then run (plain.writes k v))
    where
      d : Desk
      d = s.office.desks.at k

      go : {st : Step Desk OfficeDone} → WriteCase d v st → Plain (plain.by_office n k st (unbounded s)) → Plain (unbounded (by_office n k (keep_writing s.office k st) s))
      go (write_begins idle low) on =
          cond_both (room k s.office.desks) (started s.office k v) (leave s.office (Refused 6)) (λ (o : OfficeStep). Plain (unbounded (by_office n k o s))) (λ _. stored k (begin_writing d v) on) (λ _. run)
      go write_refused on = run

  hear_plain : (from k : ℕ) (m : Message) → Memᴰ (record { from = from; to = office; note = k; message = m }) s.bag → Plain (unbounded s) → Plain (unbounded (by_office n k (office_hears n f s.office from k m) s))
  hear_plain from k m at run = go (office_case n f d from m) (plain.then run (plain.office_hears (record { from = from; to = office; note = k; message = m }) at refl))
    where
      d : Desk
      d = s.office.desks.at k

      go : {m : Message} {st : Step Desk OfficeDone} → OfficeCase n f d from m st → Plain (plain.by_office n k st (unbounded s)) → Plain (unbounded (by_office n k (keep_counting s.office k st) s))
      go (took_counts below busy short) on = on
      go (took_ends below busy all) on = stored k (quiet (close (acknowledge from d)) ended) on
      go (office_passes e) on = run

  -- each writing under way is sent again, one after the other
  resend_plain : (ks : List ℕ) (bag : List Packet) → ((k : ℕ) → Memᴰ k ks → (s.office.desks.at k).busy ≡ true) → Plain (record { office = s.office.desks.at; warden = λ i. (s.warden i).at; reader = s.reader; bag = bag; log = s.log }) → Plain (record { office = s.office.desks.at; warden = λ i. (s.warden i).at; reader = s.reader; bag = post n (map (again s.office.desks) ks) bag; log = s.log })
  resend_plain [] bag busy run = run
  resend_plain (k ∷ ks) bag busy run =
      resend_plain ks (packets n office k (Each (Take d.now)) ++ bag) (λ k m. busy k (Memᴰ.tail m))
      (subst (λ (o : ℕ → Desk). Plain (record { office = o; warden = λ i. (s.warden i).at; reader = s.reader; bag = packets n office k (Each (Take d.now)) ++ bag; log = s.log })) (put_own k s.office.desks.at)
      (subst (λ (st : Step Desk OfficeDone). Plain (plain.by_office n k st u)) (cond-true d.busy (resend d) (quiet d no_writing) (busy k (Memᴰ.head refl))) (plain.then run (plain.office_ticks k))))
    where
      d : Desk
      d = s.office.desks.at k

      u : plain.System
      u = record { office = s.office.desks.at; warden = λ i. (s.warden i).at; reader = s.reader; bag = bag; log = s.log }

  -- a warden that has what it had, and one that has a note more
  module _ (i k : ℕ) where
    abbrev Wardens : (ℕ → ℕ → Note) → List Packet → Log → Type 0
    Wardens w bag log = Plain (record { office = s.office.desks.at; warden = w; reader = s.reader; bag = bag; log = log })

    same_plain : (bag : List Packet) → Wardens (put i (put k ((s.warden i).at k) (s.warden i).at) (λ i. (s.warden i).at)) bag s.log → Wardens (λ i'. (put i (s.warden i) s.warden i').at) bag s.log
    same_plain bag run = subst (λ (w : ℕ → ℕ → Note). Wardens w bag s.log) (put_cell i k (λ i. (s.warden i).at) ∙ ap (λ (w : ℕ → Keep Note). λ i. (w i).at) (sym (put_own i s.warden))) run

    unchanged_plain : Plain (unbounded s) → Wardens (λ i'. (put i (s.warden i) s.warden i').at) s.bag s.log
    unchanged_plain run = subst (λ (w : ℕ → ℕ → Note). Wardens w s.bag s.log) (ap (λ (w : ℕ → Keep Note). λ i. (w i).at) (sym (put_own i s.warden))) run

    abbrev After : Step Note WardenDone → Type 0
    After st = Plain (plain.by_warden n i k st (unbounded s)) → Plain (unbounded (by_warden n i k (keep_note (s.warden i) k st) s))

    took_plain : (x : Note) → Plain (unbounded s) → After (takes_note x)
    took_plain x run on =
        cond_both (room k (s.warden i)) (took_step k x (s.warden i)) (refuse (s.warden i) 6) (λ (o : Step (Keep Note) WardenDone). Plain (unbounded (by_warden n i k o s)))
        (λ _. subst (λ (w : ℕ → ℕ → Note). Wardens w (packets n i k (One office (Took x.edition)) ++ s.bag) (plain.warden_event i k (put k x (s.warden i).at k) (Done taken) ++ s.log)) (put_map (λ (d : Keep Note). d.at) i (store k x (s.warden i)) s.warden) (rw (put_same k x (s.warden i).at) on))
        (λ _. unchanged_plain run)

    warden_plain : (from : ℕ) (m : Message) → Plain (unbounded s) → Plain (plain.by_warden n i k (warden_on ((s.warden i).at k) from m) (unbounded s)) → Plain (unbounded (by_warden n i k (warden_keeps (s.warden i) from k m) s))
    warden_plain from m run = go (warden_case y from m)
      where
        y : Note
        y = (s.warden i).at k

        go : {m : Message} {o : Step Note WardenDone} → WardenCase y from m o → After o
        go (warden_takes x own late) = took_plain x run
        go (warden_had x own early) = same_plain (packets n i k (One office (Took x.edition)) ++ s.bag)
        go (warden_answers r) = same_plain (packets n i k (One from (Told r y)) ++ s.bag)
        go warden_passes = same_plain s.bag

-- what every run keeps
pub record Kept (n f : ℕ) (liar : ℕ → Bool) (s : System) : Type 0 where
  pub order : Ordered s.office
  pub run : plain.Run n f liar (unbounded s)

module _ (n f : ℕ) (liar : ℕ → Bool) where
  kept_by : {s t : System} → Move n f liar s t → Kept n f liar s → Kept n f liar t
  kept_by {s} (writes k v) h = record { order = write_ordered s.office h.order k v; run = write_plain n f liar s k v h.run }
  kept_by {s} T.office_tick h = record { order = h.order; run = resend_plain n f liar s s.office.under_way s.bag h.order.busy h.run }
  kept_by {s} (office_hear p m to) h = record { order = hear_ordered s.office h.order p.note n f p.from p.message; run = hear_plain n f liar s p.from p.note p.message (rw to at m) h.run }
  kept_by {s} (warden_hear i p l honest m to) h = record { order = h.order; run = warden_plain n f liar s i p.note p.from p.message h.run (plain.then h.run (plain.warden_hears i p l honest m to)) }
  kept_by (reads j k fair) h = record { order = h.order; run = plain.then h.run (plain.reads j k fair) }
  kept_by (reader_ticks j fair) h = record { order = h.order; run = plain.then h.run (plain.reader_ticks j fair) }
  kept_by (reader_hears j p fair m to) h = record { order = h.order; run = plain.then h.run (plain.reader_hears j p fair m to) }
  kept_by office_restarts h = record { order = record { busy = h.order.busy; listed = h.order.listed }; run = plain.then h.run plain.office_restarts }
  kept_by (reader_restarts j first up) h = record { order = h.order; run = plain.then h.run (plain.reader_restarts j first up) }
  kept_by (lies p so other) h = record { order = h.order; run = plain.then h.run (plain.lies p so other) }
  kept_by {s} (loses i) h =
      record {
        order = h.order;
        run = subst (λ (w : ℕ → ℕ → Note). plain.Run n f liar (record { office = s.office.desks.at; warden = w; reader = s.reader; bag = s.bag; log = (plain.warden_lost i (unbounded s)).log })) (put_map (λ (d : Keep Note). d.at) i (empty none) s.warden) (plain.then h.run (plain.loses i));
      }

  pub run_kept : {s : System} → Run n f liar s → Kept n f liar s
  run_kept begin = record { order = empty_ordered; run = plain.begin }
  run_kept (then before m) = kept_by m (run_kept before)

pub refines : Refines
refines n f liar s run = (run_kept n f liar run).run

pub holds : Holds
holds n f liar least s run = F.holds n f liar least (unbounded s) (refines n f liar s run)
