-- Every run with files is a run without them, with the same log; so its log is good.
-- Assumes nothing.
use Rattle.std.proofs.Common.{◌≡◌, ℕ, ◌*◌, ◌<◌, Bool, List, [], ◌∷◌, ◌++◌, refl}
use mathlib.Core.List.Memᴰ
use Rattle.register.specs.Note.{none}
use Rattle.protocol.specs.Message.{Packet, packets}
use Rattle.protocol.specs.Step.{Step}
use Rattle.protocol.specs.Reader.{ReaderDone, Reader, read_on, reader_tick, reader_on}
use Rattle.protocol.specs.System.{reader_event}
use Rattle.protocol_tables.specs.Keep.{empty}
use Rattle.protocol_tables.specs.Office.{Office, empty_office}
use Rattle.protocol_tables.specs.System as tables
use Rattle.protocol_tables.proofs.Refines as T
use Rattle.protocol_tables.proofs.Within.{Within, within_more}
use Rattle.protocol_files.specs.Disk.{with_beside, rename}
use Rattle.protocol_files.specs.Nodes.{Node, with_disk, fallen}
use Rattle.protocol_files.specs.System.{System, with_office, by_reader, Move, writes, office_tick, office_hear, write_stops, hear_stops, office_falls, office_opens, office_scribbles, office_renames, warden_hear, warden_flushes, warden_falls, warden_opens, warden_scribbles, warden_renames, loses, reads, reader_ticks, reader_hears, reader_restarts, lies, Run, begin, then, Refines, Holds}
use Rattle.protocol_files.proofs.WardenFiles as W
use Rattle.protocol_files.proofs.WardenMoves as M
use Rattle.protocol_files.proofs.OfficeFiles.{OfficeShows, office_more}
use Rattle.protocol_files.proofs.OfficeFiles as O
use Rattle.protocol_files.proofs.OfficeMoves as D
use Rattle.protocol_files.proofs.OfficeHears as H
use Rattle.protocol_files.proofs.Shown.{fits_more, reader_none, plain, Followed}

module _ (n f : ℕ) (liar : ℕ → Bool) (least : 4 * f < n) where
  -- the office's node has changed, and nothing else
  node_changes : (s : System) (c : Node Office) → ((o : Office) (b : List Packet) → OfficeShows n b s.log o s.office → OfficeShows n b s.log o c) → Followed n f liar s → Followed n f liar (with_office c s)
  node_changes s c new (o, w, b, h) = D.office_changes n f liar s c o s.bag b s.log h h.run h.bag (λ p at. at) h.fits (new o b h.office)

  reader_moves : (s : System) (j : ℕ) (st : Step Reader ReaderDone) → ((u : tables.System) → u.reader ≡ s.reader → Within s.bag u.bag → tables.Run n f liar u → tables.Run n f liar (tables.by_reader n j st u)) → Followed n f liar s → Followed n f liar (by_reader n j st s)
  reader_moves s j st run (o, w, b, h) = (
    o,
    w,
    ps ++ b,
    record {
      run = run (plain n f liar o w b s) refl h.bag h.run;
      bag = within_more ps h.bag;
      fits = fits_more (reader_event j st.next st.outcome) {l = s.log} (reader_none j st.next st.outcome) h.fits;
      office = office_more n b s.log o s.office h.office (λ p at. Memᴰ.append_right ps at) (λ x at. Memᴰ.append_right (reader_event j st.next st.outcome) at);
      warden = λ i below own. W.warden_more n i s.bag (w i) (s.warden i) (h.warden i below own) (λ p at. Memᴰ.append_right ps at);
    },
  )
    where
      ps : List Packet
      ps = packets n j st.next.note st.sends

  move : {s t : System} → Move n f liar s t → Followed n f liar s → Followed n f liar t
  move {s} (writes k v fits up) at = D.writes n f liar s k v fits up at
  move {s} (office_tick up) at = D.ticks n f liar s up at
  move {s} (office_hear p up m to) at = H.hears n f liar least s p up m to at
  move {s} (write_stops k v j m fits up) at = D.write_stops n f liar s k v fits up j m at
  move {s} (hear_stops p j left up m to) at = H.hear_stops n f liar least s p up m to j left at
  move {s} (office_falls d m fall) at = node_changes s (fallen d m) (λ o b h. O.office_falls n b s.log o s.office h fall m) at
  move {s} (office_opens ss ps rest down found) at = D.opens n f liar s least ss ps rest found at
  move {s} (office_scribbles g) at = node_changes s (with_disk (with_beside g s.office.disk) s.office) (λ o b h. O.office_scribbles n b s.log o s.office h g) at
  move {s} (office_renames m anew) at = node_changes s (fallen (rename s.office.disk) m) (λ o b h. O.office_renames n b s.log o s.office h anew m) at
  move {s} (warden_hear i p below own up m to) at = M.hears n f liar s least i below own p up m to at
  move {s} (warden_flushes i fs below own up is records) at = M.flushes n f liar s least i below own fs up is records at
  move {s} (warden_falls i d m below own fall) at = M.node_changes n f liar s i (fallen d m) (λ bag notes h. W.warden_falls n i bag notes (s.warden i) h fall m) below own at
  move {s} (warden_opens i ss ps rest below own down found) at = M.opens n f liar s least i below own ss ps rest found at
  move {s} (warden_scribbles i g below own) at = M.node_changes n f liar s i (with_disk (with_beside g (s.warden i).disk) (s.warden i)) (λ bag notes h. W.warden_scribbles n i bag notes (s.warden i) h g) below own at
  move {s} (warden_renames i m below own anew) at = M.node_changes n f liar s i (fallen (rename (s.warden i).disk) m) (λ bag notes h. W.warden_renames n i bag notes (s.warden i) h anew m) below own at
  move {s} (loses i) at = M.loses n f liar s i at
  move {s} (reads j k own) at = reader_moves s j (read_on (s.reader j) k) (λ u is bag run. rw (← is) (tables.then run (tables.reads j k own))) at
  move {s} (reader_ticks j own) at = reader_moves s j (reader_tick n f (s.reader j)) (λ u is bag run. rw (← is) (tables.then run (tables.reader_ticks j own))) at
  move {s} (reader_hears j p own m to) at = reader_moves s j (reader_on n f (s.reader j) p.from p.note p.message) (λ u is bag run. rw (← is) (tables.then run (tables.reader_hears j p own (bag p m) to))) at
  move {s} (reader_restarts j first up) (o, w, b, h) = (o, w, b, record { run = tables.then h.run (tables.reader_restarts j first up); bag = h.bag; fits = h.fits; office = h.office; warden = h.warden })
  move {s} (lies p so other) (o, w, b, h) = (
    o,
    w,
    p ∷ b,
    record {
      run = tables.then h.run (tables.lies p so other);
      bag = within_more (p ∷ []) h.bag;
      fits = h.fits;
      office = office_more n b s.log o s.office h.office (λ q at. Memᴰ.append_right (p ∷ []) at) (λ x at. at);
      warden = λ i below own. W.warden_more n i s.bag (w i) (s.warden i) (h.warden i below own) (λ q at. Memᴰ.append_right (p ∷ []) at);
    },
  )

  pub followed : {s : System} → Run n f liar s → Followed n f liar s
  followed begin = (
    empty_office,
    λ i. empty none,
    [],
    record { run = tables.begin; bag = λ p at. at; fits = λ k e v at. absurd (Memᴰ.not-nil at); office = O.new_shows n; warden = λ i below own. W.new_shows n i [] },
  )
  followed (then before m) = move m (followed before)

pub refines : Refines
refines n f liar least s run =
    let (o, w, b, h) = followed n f liar least run in
    record { without_files = plain n f liar o w b s; run = h.run; log = refl; reader = refl; bag = h.bag }

pub holds : Holds
holds n f liar least s run = let (o, w, b, h) = followed n f liar least run in T.holds n f liar least (plain n f liar o w b s) h.run
