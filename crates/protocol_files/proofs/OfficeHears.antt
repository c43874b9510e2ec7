-- What comes to the office with files, a run without files goes on with, unless it knows of the end already.
-- Assumes nothing.
use Rattle.std.proofs.Common.{◌≡◌, ℕ, ◌*◌, ◌^◌, ◌<◌, Bool, true, false, List, [], ◌∷◌, take, sym, refl, ap, ◌∙◌, subst, ⊎_elim, arith}
use mathlib.Core.List.{Memᴰ}
use Rattle.std.proofs.lemmas.Bool.{both_ways, cases_Bool, false_from_ne_true, cond-true, cond-false, ne_eqb}
use Rattle.register.specs.Note.{Note}
use Rattle.register.proofs.Put.{put_at, put_all, put_both, put_same}
use Rattle.protocol.specs.Message.{office, Message, Packet}
use Rattle.protocol.specs.Step.{Step, quiet}
use Rattle.protocol.specs.Office.{OfficeDone, counted, ended, Desk, acknowledge, close, office_on}
use Rattle.protocol.specs.Log.{Ended, Log}
use Rattle.protocol.proofs.PartyCases.{OfficeCase, took_counts, took_ends, office_passes, office_case}
use Rattle.protocol_tables.specs.Keep.{Keep}
use Rattle.protocol_tables.specs.Office.{Office, keep_counting, office_hears}
use Rattle.protocol_tables.specs.System as tables
use Rattle.protocol_tables.proofs.Orders.{Ordered, hear_ordered}
use Rattle.protocol_tables.proofs.Refines as T
use Rattle.frames.specs.Format as frames
use Rattle.frames.specs.Journal.{encode_all}
use Rattle.protocol_files.specs.Disk.{append, sync}
use Rattle.protocol_files.specs.System.{System, has_ended, ended_news, by_office, office_stops}
use Rattle.protocol_files.proofs.OfficeSteps.{Like, like_stored, like_kept, closed}
use Rattle.protocol_files.proofs.OfficeFiles.{Stands, stands_more, Waits, idle, stops, OfficeUp, OfficeShows, ended_means, now_file}
use Rattle.protocol_files.proofs.OfficeFiles as O
use Rattle.protocol_files.proofs.OfficeStands.{stands_kept, stands_closed, ended_there, ended_so, news_fits}
use Rattle.protocol_files.proofs.OfficeMoves.{office_changes, had_busy, as_it_is}
use Rattle.protocol_files.proofs.Shown.{plain, Shown, Followed, sent_fits}

module _ (n f : ℕ) (liar : ℕ → Bool) (least : 4 * f < n) (s : System) {o : Office} {w : ℕ → Keep Note} {b : List Packet} (h : Shown n f liar s o w b) (up : s.office.up ≡ true) (k from : ℕ) where
  abbrev m : Office
  m = s.office.memory

  abbrev base : Office
  base = h.office.base

  abbrev d : Desk
  d = m.desks.at k

  -- the desk as it is once the took is counted, and once the writing has come to an end
  abbrev more : Desk
  more = acknowledge from d

  work : OfficeUp base o s.office
  work = h.office.working up

  base_on : d.busy ≡ true → (base.desks.at k).busy ≡ true
  base_on on = sym (work.like.desk k).busy ∙ on

  -- without files, the same message about a writing that is under way
  abbrev Runs : Step Desk OfficeDone → Type 0
  Runs st = (o.desks.at k).busy ≡ true → tables.Run n f liar (tables.by_office n k (keep_counting o k st) (plain n f liar o w b s))

  -- THE WRITING HAS COME TO AN END: without files too, now or before
  record Over : Type 0 where
    then : Office
    run : tables.Run n f liar (record { office = then; warden = w; reader = s.reader; bag = b; log = ended_news k d.now.edition s.log })
    stands : Stands n b (ended_news k d.now.edition s.log) base then
    off : (then.desks.at k).busy ≡ false
    had : then.desks.had k ≡ true
    others : (j : ℕ) → (j ≡ k → ⊥) → then.desks.at j ≡ o.desks.at j

  over_now : d.busy ≡ true → Runs (quiet (close more) ended) → (o.desks.at k).busy ≡ true → Over
  over_now on runs busy =
      record {
        then = next;
        run = subst (λ (l : Log). tables.Run n f liar (record { office = next; warden = w; reader = s.reader; bag = b; log = l })) (sym news) run;
        stands = subst (λ (l : Log). Stands n b l base next) (sym news) (stands_kept (stands_more (λ p at. at) (λ x at. Memᴰ.tail at) h.office.stands) k (close more) next.under_way (had_busy n f liar s least h k (base_on on))
            (record { now = sym (work.like.desk k).now; busy = λ so. cc; ended = λ _ _. Memᴰ.head (ap (λ (y : Note). Ended k y.edition) (sym (work.like.desk k).now)); sent = λ so. (h.office.stands.desk k).sent so }));
        off = ap (λ (e : Desk). e.busy) (put_same k (close more) o.desks.at);
        had = put_same k true o.desks.had;
        others = λ j apart. rw (ne_eqb j k apart);
      }
    where
      next : Office
      next = (keep_counting o k (quiet (close more) ended)).next

      run : tables.Run n f liar (record { office = next; warden = w; reader = s.reader; bag = b; log = Ended k d.now.edition ∷ s.log })
      run = subst (λ (e : Desk). tables.Run n f liar (record { office = next; warden = w; reader = s.reader; bag = b; log = Ended k e.now.edition ∷ s.log })) (put_same k (close more) o.desks.at) (runs busy)

      first_time : has_ended k d.now.edition s.log ≡ false
      first_time = false_from_ne_true (has_ended k d.now.edition s.log) (λ so. (T.holds n f liar least (record { office = next; warden = w; reader = s.reader; bag = b; log = Ended k d.now.edition ∷ s.log }) run [] s.log (Ended k d.now.edition) refl).once (ended_there k d.now.edition s.log so))

      news : ended_news k d.now.edition s.log ≡ Ended k d.now.edition ∷ s.log
      news = cond-false (has_ended k d.now.edition s.log) s.log (Ended k d.now.edition ∷ s.log) first_time

  over_before : d.busy ≡ true → (o.desks.at k).busy ≡ false → Over
  over_before on off =
      record {
        then = o;
        run = subst (λ (l : Log). tables.Run n f liar (record { office = o; warden = w; reader = s.reader; bag = b; log = l })) (sym news) h.run;
        stands = subst (λ (l : Log). Stands n b l base o) (sym news) h.office.stands;
        off = off;
        had = had_busy n f liar s least h k (base_on on);
        others = λ j apart. refl;
      }
    where
      before : Memᴰ (Ended k d.now.edition) s.log
      before = subst (λ (y : Note). Memᴰ (Ended k y.edition) s.log) (sym (work.like.desk k).now) ((h.office.stands.desk k).ended (base_on on) off)

      news : ended_news k d.now.edition s.log ≡ s.log
      news = cond-true (has_ended k d.now.edition s.log) s.log (Ended k d.now.edition ∷ s.log) (ended_so k d.now.edition s.log before)

  over : d.busy ≡ true → Runs (quiet (close more) ended) → Over
  over on runs = ⊎_elim (over_now on runs) (over_before on) (cases_Bool (o.desks.at k).busy)

  -- it has room in a record
  edition_fits : d.busy ≡ true → (k < 2 ^ 32) × ((base.desks.at k).now.edition < 2 ^ 64)
  edition_fits on = let fits = sent_fits n f liar least h 0 k (base.desks.at k).now ((h.office.stands.desk k).sent (base_on on) 0 (omega arith)) in (fits.0, fits.1.0)

  edition_is : (base.desks.at k).now.edition ≡ d.now.edition
  edition_is = ap (λ (y : Note). y.edition) (sym (work.like.desk k).now)

  -- A TOOK IS COUNTED
  counts_on : d.busy ≡ true → Runs (quiet more counted) → Ordered (keep_counting m k (quiet more counted)).next → Followed n f liar (by_office n k (keep_counting m k (quiet more counted)) s)
  counts_on on runs order = ⊎_elim here there (cases_Bool (o.desks.at k).busy)
    where
      next : Office
      next = (keep_counting m k (quiet more counted)).next

      had : o.desks.had k ≡ true
      had = had_busy n f liar s least h k (base_on on)

      like : Like next base
      like = like_kept k more m.under_way (ap (λ (g : ℕ → Bool). g k) (work.like.had ∙ h.office.stands.had) ∙ had) (record { now = (work.like.desk k).now; busy = (work.like.desk k).busy }) work.like

      after : (o' : Office) → tables.Run n f liar (plain n f liar o' w b s) → Stands n b s.log base o' → ((j : ℕ) → (o'.desks.at j).busy ≡ true → next.desks.at j ≡ o'.desks.at j) → Followed n f liar (by_office n k (keep_counting m k (quiet more counted)) s)
      after o' run stands same =
          office_changes n f liar s (record { disk = sync (append [] s.office.disk); up = s.office.up; memory = next }) o' s.bag b s.log h run h.bag (λ p at. at) h.fits
          (as_it_is n f liar s o b s.log h.office up o' next stands like order same)

      here : (o.desks.at k).busy ≡ true → Followed n f liar (by_office n k (keep_counting m k (quiet more counted)) s)
      here busy =
          after (keep_counting o k (quiet more counted)).next (runs busy)
          (stands_kept h.office.stands k more o.under_way had (record { now = sym (work.like.desk k).now; busy = λ _. base_on on; ended = λ _ off. cc; sent = (h.office.stands.desk k).sent }))
          (put_both (λ _ (d e : Desk). e.busy ≡ true → d ≡ e) k more more m.desks.at o.desks.at (λ _. refl) work.same)

      there : (o.desks.at k).busy ≡ false → Followed n f liar (by_office n k (keep_counting m k (quiet more counted)) s)
      there off =
          after o h.run h.office.stands
          (put_all (λ j (e : Desk). (o.desks.at j).busy ≡ true → e ≡ o.desks.at j) k more m.desks.at (λ so. cc) work.same)

  -- A WRITING HAS COME TO AN END
  ends_on : d.busy ≡ true → Runs (quiet (close more) ended) → Ordered (keep_counting m k (quiet (close more) ended)).next → Followed n f liar (by_office n k (keep_counting m k (quiet (close more) ended)) s)
  ends_on on runs order =
      subst (λ (e : Desk). Followed n f liar (record { office = record { disk = sync (append (encode_all (frames.Ended k e.now.edition ∷ [])) s.office.disk); up = s.office.up; memory = next }; warden = s.warden; reader = s.reader; bag = s.bag; log = ended_news k e.now.edition s.log })) (sym (put_same k (close more) m.desks.at))
      (office_changes n f liar s (record { disk = sync (append (encode_all (frames.Ended k d.now.edition ∷ [])) s.office.disk); up = s.office.up; memory = next }) r.then s.bag b (ended_news k d.now.edition s.log) h r.run h.bag (λ p at. at) (news_fits k d.now.edition s.log h.fits)
      (subst (λ (e : ℕ). OfficeShows n b (ended_news k d.now.edition s.log) r.then (record { disk = sync (append (encode_all (frames.Ended k e ∷ [])) s.office.disk); up = s.office.up; memory = next })) edition_is
      (O.office_records n b s.log o s.office h.office up r.then b (ended_news k d.now.edition s.log) (frames.Ended k (base.desks.at k).now.edition ∷ []) (closed base k) next
      ((edition_fits on, refl), tt) (ended_means base (now_file n b s.log o s.office h.office).old k (now_file n b s.log o s.office h.office).means (base_on on))
      (stands_closed r.stands k r.had r.off)
      (like_stored k (close more) (close (base.desks.at k)) next.under_way (closed base k).under_way (record { now = (work.like.desk k).now; busy = refl }) work.like)
      order
      same)))
    where
      r : Over
      r = over on runs

      next : Office
      next = (keep_counting m k (quiet (close more) ended)).next

      same : (j : ℕ) → (r.then.desks.at j).busy ≡ true → next.desks.at j ≡ r.then.desks.at j
      same j so =
          put_at (λ e. e ≡ r.then.desks.at j) j k (close more) m.desks.at
          (λ is. absurd (both_ways (r.then.desks.at k).busy r.off (rw is at so)))
          (λ apart. work.same j (ap (λ (e : Desk). e.busy) (sym (r.others j apart)) ∙ so) ∙ sym (r.others j apart))

  -- nothing is recorded, and it goes on as it was
  passes_on : Followed n f liar (record { office = record { disk = sync (append [] s.office.disk); up = s.office.up; memory = m }; warden = s.warden; reader = s.reader; bag = s.bag; log = s.log })
  passes_on =
      office_changes n f liar s (record { disk = sync (append [] s.office.disk); up = s.office.up; memory = m }) o s.bag b s.log h h.run h.bag (λ p at. at) h.fits
      (as_it_is n f liar s o b s.log h.office up o m h.office.stands work.like work.order work.same)

  pub hears_step : {p : Message} {st : Step Desk OfficeDone} → OfficeCase n f d from p st → Runs st → Ordered (keep_counting m k st).next → Followed n f liar (by_office n k (keep_counting m k st) s)
  hears_step (office_passes e) runs order = passes_on
  hears_step (took_counts below on short) runs order = counts_on on runs order
  hears_step (took_ends below on all) runs order = ends_on on runs order

  -- IT STOPS THERE
  nothing_pends : (j : ℕ) (left : Office) → Followed n f liar (record { office = record { disk = append (take j []) s.office.disk; up = false; memory = left }; warden = s.warden; reader = s.reader; bag = s.bag; log = s.log })
  nothing_pends j left =
      office_changes n f liar s (record { disk = append (take j []) s.office.disk; up = false; memory = left }) o s.bag b s.log h h.run h.bag (λ p at. at) h.fits
      (O.office_stops n b s.log o s.office h.office up o b s.log [] j left idle h.office.stands)

  end_pends : (j : ℕ) (left : Office) → d.busy ≡ true → Runs (quiet (close more) ended) → Followed n f liar (office_stops k (keep_counting m k (quiet (close more) ended)) j left s)
  end_pends j left on runs =
      subst (λ (e : Desk). Followed n f liar (record { office = record { disk = append (take j (encode_all (frames.Ended k e.now.edition ∷ []))) s.office.disk; up = false; memory = left }; warden = s.warden; reader = s.reader; bag = s.bag; log = ended_news k e.now.edition s.log })) (sym (put_same k (close more) m.desks.at))
      (office_changes n f liar s (record { disk = append (take j (encode_all (frames.Ended k d.now.edition ∷ []))) s.office.disk; up = false; memory = left }) r.then s.bag b (ended_news k d.now.edition s.log) h r.run h.bag (λ p at. at) (news_fits k d.now.edition s.log h.fits)
      (O.office_stops n b s.log o s.office h.office up r.then b (ended_news k d.now.edition s.log) (frames.Ended k d.now.edition ∷ []) j left
      (subst (λ (e : ℕ). Waits base r.then (frames.Ended k e ∷ [])) edition_is (stops k (edition_fits on).0 (edition_fits on).1 (base_on on) r.off))
      r.stands))
    where
      r : Over
      r = over on runs

  pub stops_step : (j : ℕ) (left : Office) {p : Message} {st : Step Desk OfficeDone} → OfficeCase n f d from p st → Runs st → Followed n f liar (office_stops k (keep_counting m k st) j left s)
  stops_step j left (office_passes e) runs = nothing_pends j left
  stops_step j left (took_counts below on short) runs = nothing_pends j left
  stops_step j left (took_ends below on all) runs = end_pends j left on runs

module _ (n f : ℕ) (liar : ℕ → Bool) (least : 4 * f < n) (s : System) (p : Packet) (up : s.office.up ≡ true) (at : Memᴰ p s.bag) (to : p.to ≡ office) where
  -- the same desk does the same
  runs : {o : Office} {w : ℕ → Keep Note} {b : List Packet} (h : Shown n f liar s o w b) → (o.desks.at p.note).busy ≡ true → tables.Run n f liar (tables.by_office n p.note (keep_counting o p.note (office_on n f (s.office.memory.desks.at p.note) p.from p.message)) (plain n f liar o w b s))
  runs {o} {w} {b} h busy =
      subst (λ (d : Desk). tables.Run n f liar (tables.by_office n p.note (keep_counting o p.note (office_on n f d p.from p.message)) (plain n f liar o w b s))) (sym ((h.office.working up).same p.note busy))
      (tables.then h.run (tables.office_hear p (h.bag p at) to))

  pub hears : Followed n f liar s → Followed n f liar (by_office n p.note (office_hears n f s.office.memory p.from p.note p.message) s)
  hears (o, w, b, h) =
      hears_step n f liar least s h up p.note p.from (office_case n f (s.office.memory.desks.at p.note) p.from p.message) (runs h) (hear_ordered s.office.memory (h.office.working up).order p.note n f p.from p.message)

  pub hear_stops : (j : ℕ) (left : Office) → Followed n f liar s → Followed n f liar (office_stops p.note (office_hears n f s.office.memory p.from p.note p.message) j left s)
  hear_stops j left (o, w, b, h) =
      stops_step n f liar least s h up p.note p.from j left (office_case n f (s.office.memory.desks.at p.note) p.from p.message) (runs h)
