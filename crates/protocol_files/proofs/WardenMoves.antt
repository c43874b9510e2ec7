-- What a warden with files does, a run without files goes on with.
-- Assumes nothing.
use Rattle.std.proofs.Common.{◌≡◌, ℕ, ◌*◌, ◌<◌, Bool, true, false, List, [], ◌∷◌, ◌++◌, sym, subst, ⊎_elim}
use mathlib.Core.List.Memᴰ
use mathlib.Core.List.{Memᴰ}
use Rattle.register.specs.Count.{put}
use Rattle.register.specs.Note.{Note, none}
use Rattle.register.proofs.Put.{put_all, put_both, put_own}
use Rattle.protocol.specs.Message.{office, Take, Packet}
use Rattle.protocol.specs.Log.{Lost, Log}
use Rattle.protocol_tables.specs.Keep.{Keep, empty}
use Rattle.protocol_tables.specs.Warden.{warden_keeps}
use Rattle.protocol_tables.specs.Office.{Office}
use Rattle.protocol_tables.specs.System as tables
use Rattle.protocol_tables.proofs.Within.{Within}
use Rattle.frames.specs.Format.{Frame}
use Rattle.frames.specs.Journal.{Records, encode_all}
use Rattle.frames.specs.declared.role.Role.TheVariants as roles
use Rattle.protocol_files.specs.Records.{warden_replays_all, warden_of, took_all}
use Rattle.protocol_files.specs.Nodes.{Node, Warden, new_warden, stepped, flushed, opened_warden}
use Rattle.protocol_files.specs.System.{System, with_warden, warden_flushed, warden_opened, warden_lost, Found}
use Rattle.protocol_files.proofs.Takes.{taken_more}
use Rattle.protocol_files.proofs.WardenFiles.{OfficeFits, WardenShows}
use Rattle.protocol_files.proofs.WardenFiles as W
use Rattle.protocol_files.proofs.WardenRuns.{took_grows, takes_all, hears_all}
use Rattle.protocol_files.proofs.OfficeFiles.{office_more}
use Rattle.protocol_files.proofs.Shown.{LogFits, fits_more, took_fits, Shown, Followed, sent_fits}

module _ (n f : ℕ) (liar : ℕ → Bool) (s : System) where
  pub bag_fits : 4 * f < n → {o : Office} {w : ℕ → Keep Note} {b : List Packet} → Shown n f liar s o w b → OfficeFits s.bag
  bag_fits least h to k x at = sent_fits n f liar least h to k x (h.bag (record { from = office; to = to; note = k; message = Take x }) at)

  -- a warden's node has changed, and nothing else
  pub node_changes : (i : ℕ) (c : Node Warden) → ((bag : List Packet) (d : Keep Note) → WardenShows n i bag d (s.warden i) → WardenShows n i bag d c) → i < n → liar i ≡ false → Followed n f liar s → Followed n f liar (with_warden i c s)
  node_changes i c new below own (o, w, b, h) = (
    o,
    w,
    b,
    record {
      run = h.run;
      bag = h.bag;
      fits = h.fits;
      office = h.office;
      warden = put_all (λ j c. j < n → liar j ≡ false → WardenShows n j s.bag (w j) c) i c s.warden (λ _ _. new s.bag (w i) (h.warden i below own)) h.warden;
    },
  )

  -- the warden i has something else, without files too
  warden_changes : (i : ℕ) (c : Node Warden) (d : Keep Note) (bag more : List Packet) (log : Log) {o : Office} {w : ℕ → Keep Note} {b : List Packet} → Shown n f liar s o w b →
      tables.Run n f liar (record { office = o; warden = put i d w; reader = s.reader; bag = more; log = log }) → Within bag more → Within s.bag bag → Within b more → LogFits log → Within s.log log → WardenShows n i bag d c →
      Followed n f liar (record { office = s.office; warden = put i c s.warden; reader = s.reader; bag = bag; log = log })
  warden_changes i c d bag more log {o} {w} {b} h run within old grown fits news new = (
    o,
    put i d w,
    more,
    record {
      run = run;
      bag = within;
      fits = fits;
      office = office_more n b s.log o s.office h.office grown news;
      warden = put_both (λ j d c. j < n → liar j ≡ false → WardenShows n j bag d c) i d c w s.warden (λ _ _. new) (λ j below own. W.warden_more n j s.bag (w j) (s.warden j) (h.warden j below own) old);
    },
  )

  pub own_run : (i : ℕ) {o : Office} {w : ℕ → Keep Note} {b : List Packet} → Shown n f liar s o w b → tables.Run n f liar (record { office = o; warden = put i (w i) w; reader = s.reader; bag = b; log = s.log })
  own_run i {o} {w} {b} h = subst (λ (c : ℕ → Keep Note). tables.Run n f liar (record { office = o; warden = c; reader = s.reader; bag = b; log = s.log })) (sym (put_own i w)) h.run

  pub loses : (i : ℕ) → Followed n f liar s → Followed n f liar (warden_lost i s)
  loses i (o, w, b, h) =
      warden_changes i new_warden (empty none) s.bag b (Lost i ∷ s.log) h (tables.then h.run (tables.loses i)) h.bag (λ p at. at) (λ p at. at)
      (fits_more (Lost i ∷ []) {l = s.log} (λ k e v at. cc (Memᴰ.eq_of_singleton at)) h.fits)
      (λ x at. Memᴰ.tail at) (W.new_shows n i s.bag)

  module _ (least : 4 * f < n) (i : ℕ) (below : i < n) (own : liar i ≡ false) where
    pub hears : (p : Packet) → (s.warden i).up ≡ true → Memᴰ p s.bag → p.to ≡ i → Followed n f liar s → Followed n f liar (with_warden i (stepped n i p.note (warden_keeps (s.warden i).memory.notes p.from p.note p.message) (s.warden i)) s)
    hears p up m to (o, w, b, h) = (
      o,
      w,
      b,
      record {
        run = h.run;
        bag = h.bag;
        fits = h.fits;
        office = h.office;
        warden = put_all (λ j c. j < n → liar j ≡ false → WardenShows n j s.bag (w j) c) i (stepped n i p.note (warden_keeps (s.warden i).memory.notes p.from p.note p.message) (s.warden i)) s.warden (λ _ _. W.warden_hears n i s.bag (w i) (s.warden i) (h.warden i below own) (bag_fits least h) up p m to) h.warden;
      },
    )

    pub flushes : (fs : List Frame) → (s.warden i).up ≡ true → (s.warden i).disk.file.pending ≡ encode_all fs → Records roles.Warden fs → Followed n f liar s → Followed n f liar (warden_flushed i fs s)
    flushes fs up is records (o, w, b, h) =
        let c = h.warden i below own in
        let wrote = W.warden_wrote n i s.bag (w i) (s.warden i) c (bag_fits least h) up fs is records in
        let (more, grown, sent, end) = hears_all n f liar o w s.reader i below own (c.working up).batch b s.log h.bag (own_run i h) in
        warden_changes i (flushed (s.warden i)) (s.warden i).memory.notes (outbox ++ s.bag) more (took_all i fs s.log) h
        (subst (λ (gs : List Frame). tables.Run n f liar (record { office = o; warden = put i (s.warden i).memory.notes w; reader = s.reader; bag = more; log = took_all i gs s.log })) (sym wrote) end)
        (λ p at. ⊎_elim (sent p) (λ at. grown p (h.bag p at)) (Memᴰ.append_cases outbox at))
        (λ p at. Memᴰ.append_right outbox at) grown (took_fits i fs {l = s.log} h.fits) (took_grows i fs s.log)
        (W.warden_flushes n i s.bag (w i) (s.warden i) c (bag_fits least h) up (outbox ++ s.bag))
      where
        outbox : List Packet
        outbox = (s.warden i).memory.outbox

    pub opens : (ss ps : List Frame) (rest : List ℕ) → Found roles.Warden (s.warden i).disk.file ss ps rest → Followed n f liar s → Followed n f liar (warden_opened i ss ps s)
    opens ss ps rest found (o, w, b, h) =
        let (taken, shows) = W.warden_opens n i s.bag (w i) (s.warden i) (h.warden i below own) found in
        let (more, grown, end) = takes_all n f liar o w s.reader i below own ps (w i) b s.log (taken_more i s.bag h.bag (w i) ps taken) (own_run i h) in
        warden_changes i (opened_warden (ss ++ ps) (warden_of (ss ++ ps))) (warden_replays_all (w i) ps) s.bag more (took_all i ps s.log) h end
        (λ p at. grown p (h.bag p at)) (λ p at. at) grown (took_fits i ps {l = s.log} h.fits) (took_grows i ps s.log) (shows s.bag)
