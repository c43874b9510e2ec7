-- What the honest can do without bounds they can do with tables; so a writing and a reading come to an end.
-- Assumes nothing.
use Rattle.std.proofs.Common.{◌≡◌, ℕ, ◌+◌, ◌≤◌, Bool, true, List, [], ◌∷◌, ◌++◌, map, sym, refl, ap, ◌∙◌, subst, ⊎_elim}
use mathlib.Core.List.Memᴰ
use mathlib.Core.List.{Memᴰ}
use Rattle.std.proofs.lemmas.Bool.{cond_both}
use Rattle.register.specs.Count.{put}
use Rattle.register.specs.Note.{Note}
use Rattle.register.specs.Rule.{answers}
use Rattle.register.proofs.Put.{put_same, put_own, put_cell, put_map}
use Rattle.protocol.specs.Message.{office, Message, Take, Took, Told, Packet, One, Each, packets}
use Rattle.protocol.specs.Step.{Step, Done, quiet, refuse}
use Rattle.protocol.specs.Warden.{WardenDone, taken, warden_on}
use Rattle.protocol.specs.Office.{OfficeDone, no_writing, ended, Desk, resend, office_tick, acknowledge, close, office_on}
use Rattle.protocol.specs.Reader.{ReaderDone, Reader, read_on, reader_tick, reader_on}
use Rattle.protocol.specs.System as plain
use Rattle.protocol.specs.Progress.{Decision, sure, doubtful, open_still, Decided}
use Rattle.protocol.specs.Progress as ways
use Rattle.protocol.proofs.PartyCases.{takes_note, WardenCase, warden_takes, warden_had, warden_answers, warden_passes, warden_case, OfficeCase, took_counts, took_ends, office_passes, office_case}
use Rattle.protocol.proofs.Writings as P
use Rattle.protocol.proofs.Rounds as Q
use Rattle.protocol.proofs.Readings as R
use Rattle.protocol_tables.specs.Keep.{Keep, room, store}
use Rattle.protocol_tables.specs.Warden.{keep_note, warden_keeps}
use Rattle.protocol_tables.specs.Office.{Letter, post, keep_counting, office_hears, again, office_ticks}
use Rattle.protocol_tables.specs.System.{System, by_office, by_warden, by_reader, unbounded, Move, Run, then}
use Rattle.protocol_tables.specs.System as T
use Rattle.protocol_tables.specs.Progress.{fair, Way, here, next, WritingEnds, RoundEnds, ReadingEnds, ReadingAnswers}
use Rattle.protocol_tables.proofs.Within.{Within, within_more}
use Rattle.protocol_tables.proofs.TableCases.{took_step}
use Rattle.protocol_tables.proofs.Refines.{run_kept, refines}
use Rattle.protocol_tables.proofs.Room.{brings, roomy, run_fits}

-- u is s without bounds, but that less may be on its way
pub record Covers (u : plain.System) (s : System) : Type 0 where
  pub office : u.office ≡ s.office.desks.at
  pub warden : u.warden ≡ (λ i. (s.warden i).at)
  pub reader : u.reader ≡ s.reader
  pub log : u.log ≡ s.log
  pub bag : (p : Packet) → Memᴰ p u.bag → Memᴰ p s.bag

-- the same, spelled out
abbrev over : List Packet → System → plain.System
over bag s = record { office = s.office.desks.at; warden = λ i. (s.warden i).at; reader = s.reader; bag = bag; log = s.log }

-- what was on its way stays so, and each letter is on its way
pub in_post : (n : ℕ) (ls : List Letter) (bag : List Packet) → Within bag (post n ls bag)
in_post n [] bag p m = m
in_post n (l ∷ ls) bag p m = in_post n ls (packets n office l.note l.sends ++ bag) p (Memᴰ.append_right (packets n office l.note l.sends) m)

pub posted : (n : ℕ) (d : Keep Desk) (ks : List ℕ) (bag : List Packet) (k : ℕ) → Memᴰ k ks → Within (packets n office k (Each (Take (d.at k).now))) (post n (map (again d) ks) bag)
posted n d [] bag k m p at = absurd (Memᴰ.not-nil m)
posted n d (x ∷ ks) bag k (Memᴰ.head is) p at = in_post n (map (again d) ks) (packets n office x (Each (Take (d.at x).now)) ++ bag) p (Memᴰ.append_left bag (rw is at at))
posted n d (x ∷ ks) bag k (Memᴰ.tail m) p at = posted n d ks (packets n office x (Each (Take (d.at x).now)) ++ bag) k m p at

module _ (n f : ℕ) (liar : ℕ → Bool) where
  abbrev FairPlain : plain.System → plain.System → Type 0
  FairPlain u v = (m : plain.Move n f liar u v) × (ways.fair m ≡ true)

  -- by fair moves to a system that covers v
  abbrev Reached : plain.System → System → Type 0
  Reached v s = (t : System) × Way n f liar s t × Covers v t

  -- by one move
  one : {v : plain.System} {s t : System} (m : Move n f liar s t) → fair m ≡ true → Covers v t → Reached v s
  one {t = t} m so covers = (t, next m so here, covers)

  module _ (s : System) (bag : List Packet) (within : Within bag s.bag) (run : Run n f liar s) where
    tick_lifts : (k : ℕ) → Reached (plain.by_office n k (office_tick (s.office.desks.at k)) (over bag s)) s
    tick_lifts k =
        cond_both d.busy (resend d) (quiet d no_writing) (λ (o : Step Desk OfficeDone). Reached (plain.by_office n k o (over bag s)) s)
        (λ busy. one T.office_tick refl (record { office = put_own k s.office.desks.at; warden = refl; reader = refl; log = refl; bag = λ p m. ⊎_elim (posted n s.office.desks s.office.under_way s.bag k ((run_kept n f liar run).order.listed k busy) p) (λ m. in_post n (office_ticks s.office).letters s.bag p (within p m)) (Memᴰ.append_cases (packets n office k (Each (Take d.now))) m) }))
        (λ _. (s, here, record { office = put_own k s.office.desks.at; warden = refl; reader = refl; log = refl; bag = within }))
      where
        d : Desk
        d = s.office.desks.at k

    -- the office has counted, or has not
    office_covers : (from k : ℕ) (m : Message) → Covers (plain.by_office n k (office_on n f (s.office.desks.at k) from m) (over bag s)) (by_office n k (office_hears n f s.office from k m) s)
    office_covers from k m = go (office_case n f d from m)
      where
        d : Desk
        d = s.office.desks.at k

        go : {m : Message} {st : Step Desk OfficeDone} → OfficeCase n f d from m st → Covers (plain.by_office n k st (over bag s)) (by_office n k (keep_counting s.office k st) s)
        go (took_counts below on short) = record { office = refl; warden = refl; reader = refl; log = refl; bag = within }
        go (took_ends below on all) =
            record { office = refl; warden = refl; reader = refl; log = ap (λ (d : Desk). plain.office_event k d (Done ended) ++ s.log) (sym (put_same k (close (acknowledge from d)) s.office.desks.at)); bag = within }
        go (office_passes e) = record { office = put_own k s.office.desks.at; warden = refl; reader = refl; log = refl; bag = within }

    -- a warden has taken, or has not
    unchanged : (i k : ℕ) (ps : List Packet) → Covers (record { office = s.office.desks.at; warden = put i (put k ((s.warden i).at k) (s.warden i).at) (λ i. (s.warden i).at); reader = s.reader; bag = ps ++ bag; log = s.log }) (record { office = s.office; warden = put i (s.warden i) s.warden; reader = s.reader; bag = ps ++ s.bag; log = s.log })
    unchanged i k ps = record { office = refl; warden = put_cell i k (λ i. (s.warden i).at) ∙ ap (λ (w : ℕ → Keep Note). λ i. (w i).at) (sym (put_own i s.warden)); reader = refl; log = refl; bag = within_more ps within }

    warden_covers : (i from k : ℕ) (m : Message) → (brings m ≡ true → from ≡ office → room k (s.warden i) ≡ true) → Covers (plain.by_warden n i k (warden_on ((s.warden i).at k) from m) (over bag s)) (by_warden n i k (warden_keeps (s.warden i) from k m) s)
    warden_covers i from k m = go (warden_case ((s.warden i).at k) from m)
      where
        go : {m : Message} {o : Step Note WardenDone} → WardenCase ((s.warden i).at k) from m o → (brings m ≡ true → from ≡ office → room k (s.warden i) ≡ true) → Covers (plain.by_warden n i k o (over bag s)) (by_warden n i k (keep_note (s.warden i) k o) s)
        go (warden_takes x own late) fits =
            cond_both (room k (s.warden i)) (took_step k x (s.warden i)) (refuse (s.warden i) 6) (λ (o : Step (Keep Note) WardenDone). Covers (plain.by_warden n i k (takes_note x) (over bag s)) (by_warden n i k o s))
            (λ _. record { office = refl; warden = put_map (λ (d : Keep Note). d.at) i (store k x (s.warden i)) s.warden; reader = refl; log = ap (λ (z : Note). plain.warden_event i k z (Done taken) ++ s.log) (sym (put_same k x (s.warden i).at)); bag = within_more (packets n i k (One office (Took x.edition))) within })
            (λ full. cc (fits refl own))
        go (warden_had x own early) fits = unchanged i k (packets n i k (One office (Took x.edition)))
        go (warden_answers r) fits = unchanged i k (packets n i k (One from (Told r ((s.warden i).at k))))
        go warden_passes fits = unchanged i k []

    reader_covers : (j : ℕ) (o : Step Reader ReaderDone) → Covers (plain.by_reader n j o (over bag s)) (by_reader n j o s)
    reader_covers j o = record { office = refl; warden = refl; reader = refl; log = refl; bag = within_more (packets n j o.next.note o.sends) within }

    move_lifts : {v : plain.System} → FairPlain (over bag s) v → Reached v s
    move_lifts (plain.writes k x, so) = cc
    move_lifts (plain.office_ticks k, so) = tick_lifts k
    move_lifts (plain.office_hears p m to, so) = one (T.office_hear p (within p m) to) so (office_covers p.from p.note p.message)
    move_lifts (plain.warden_hears i p l own m to, so) = one (T.warden_hear i p l own (within p m) to) so (warden_covers i p.from p.note p.message (λ takes from. roomy s i p.note (run_fits n f liar run) ((run_fits n f liar run).posted p (within p m) takes from)))
    move_lifts (plain.reads j k own, so) = cc
    move_lifts (plain.reader_ticks j own, so) = one (T.reader_ticks j own) so (reader_covers j (reader_tick n f (s.reader j)))
    move_lifts (plain.reader_hears j p own m to, so) = one (T.reader_hears j p own (within p m) to) so (reader_covers j (reader_on n f (s.reader j) p.from p.note p.message))
    move_lifts (plain.office_restarts, so) = cc
    move_lifts (plain.reader_restarts j first up, so) = cc
    move_lifts (plain.lies p yes_so other, so) = cc
    move_lifts (plain.loses i, so) = cc

  covered : {u : plain.System} {s : System} → Covers u s → u ≡ over u.bag s
  covered {u} h = λ t. record { office = h.office t; warden = h.warden t; reader = h.reader t; bag = u.bag; log = h.log t }

  pub along : {s t u : System} → Way n f liar s t → Way n f liar t u → Way n f liar s u
  along here rest = rest
  along (next m so way) rest = next m so (along way rest)

  pub way_run : {s t : System} → Run n f liar s → Way n f liar s t → Run n f liar t
  way_run r here = r
  way_run r (next m so way) = way_run (then r m) way

  -- a whole way
  pub way_lifts : {u v : plain.System} (s : System) → ways.Way n f liar u v → Run n f liar s → Covers u s → Reached v s
  way_lifts s ways.here run h = (s, here, h)
  way_lifts {u} s (ways.next {t = w} m so way) run h =
      let (t, first, covers) = move_lifts s u.bag h.bag run (subst (λ (u : plain.System). FairPlain u w) (covered h) (m, so)) in
      let (t', rest, covers') = way_lifts t way (way_run run first) covers in
      (t', along first rest, covers')

  pub itself : (s : System) → Covers (unbounded s) s
  itself s = record { office = refl; warden = refl; reader = refl; log = refl; bag = λ p m. m }

pub writing_ends_lem : WritingEnds
writing_ends_lem n f liar least few s run k busy =
    let (v, xs, way, log, reader) = P.writing_ends_lem n f liar least few (unbounded s) (refines n f liar s run) k busy in
    let (t, lifted, h) = way_lifts n f liar s way run (itself n f liar s) in
    (t, xs, lifted, sym h.log ∙ log, sym h.reader ∙ reader)

-- a decision is seen in the reader and the log alone
decision_covers : (j : ℕ) (u v : plain.System) (t : System) → Covers v t → Decision j u v → Decision j u (unbounded t)
decision_covers j u v t h (sure x log) = sure x (sym h.log ∙ log)
decision_covers j u v t h (doubtful none log) = doubtful none (sym h.log ∙ log)
decision_covers j u v t h (open_still on more log) = open_still (ap (λ (r : ℕ → Reader). (r j).busy) (sym h.reader) ∙ on) more (sym h.log ∙ log)

decided_covers : (n f j : ℕ) (u v : plain.System) (t : System) → Covers v t → Decided n f j u v → Decided n f j u (unbounded t)
decided_covers n f j u v t h d =
    record {
      note = ap (λ (r : ℕ → Reader). (r j).note) (sym h.reader) ∙ d.note;
      round = ap (λ (r : ℕ → Reader). (r j).round) (sym h.reader) ∙ d.round;
      next = ap (λ (r : ℕ → Reader). (r j).next) (sym h.reader) ∙ d.next;
      left = ap (λ (r : ℕ → Reader). (r j).left) (sym h.reader) ∙ d.left;
      told = subst (λ (r : ℕ → Reader). n ≤ answers n (r j).replies + f) h.reader d.told;
      office = sym h.office ∙ d.office;
      warden = sym h.warden ∙ d.warden;
      decision = decision_covers j u v t h d.decision;
    }

pub round_ends_lem : RoundEnds
round_ends_lem n f liar least few s run j own busy =
    let (v, way, decided) = Q.round_ends_lem n f liar least few (unbounded s) (refines n f liar s run) j own busy in
    let (t, lifted, h) = way_lifts n f liar s way run (itself n f liar s) in
    (t, lifted, decided_covers n f j (unbounded s) v t h decided)

pub reading_ends_lem : ReadingEnds
reading_ends_lem n f liar least s run j own busy calm few chance =
    let (v, way, x, xs, log) = R.reading_ends_lem n f liar least (unbounded s) (refines n f liar s run) j own busy calm few chance in
    let (t, lifted, h) = way_lifts n f liar s way run (itself n f liar s) in
    (t, lifted, x, xs, sym h.log ∙ log)

pub reading_answers_lem : ReadingAnswers
reading_answers_lem n f liar least s run j k own fresh calm few =
    let (v, way, log) = R.reading_answers_lem n f liar least (unbounded s) (refines n f liar s run) j k own fresh calm few in
    let u : System = by_reader n j (read_on (s.reader j) k) s in
    let (t, lifted, h) = way_lifts n f liar u way (then run (T.reads j k own)) (itself n f liar u) in
    (t, lifted, sym h.log ∙ log)
