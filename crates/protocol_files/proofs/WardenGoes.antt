-- A run goes on with what an honest warden with a file does, and its log is good.
-- Assumes nothing.
use Rattle.std.proofs.Common.{◌≡◌, ℕ, ◌*◌, ◌<◌, Bool, true, false, List, [], ◌∷◌, ◌++◌, sym, refl, ap, ◌∙◌, subst, append_assoc, append-nil}
use mathlib.Core.List.{Memᴰ}
use Rattle.register.specs.Count.{put}
use Rattle.register.proofs.Put.{put_same, put_twice, put_own}
use Rattle.protocol.specs.Message.{Message, Packet}
use Rattle.protocol.specs.Log.{Log}
use Rattle.protocol_tables.specs.Warden.{warden_keeps}
use Rattle.frames.specs.Format.{Frame}
use Rattle.frames.specs.Journal.{Records, encode_all, Splits}
use Rattle.frames.specs.declared.role.Role.TheVariants as roles
use Rattle.frames.proofs.Files.{once}
use Rattle.protocol_files.specs.Disk.{File, Disk, contents, with_beside, rename, Cut}
use Rattle.protocol_files.specs.Records.{warden_of, took_by, took_all}
use Rattle.protocol_files.specs.Nodes.{Node, Warden, with_disk, fallen, stepped, flushed, opened_warden}
use Rattle.protocol_files.specs.System.{System, with_warden, Found, Anew, Move, warden_hear, warden_flushes, warden_falls, warden_opens, warden_scribbles, warden_renames, Run, then}
use Rattle.protocol_files.specs.Runs.{WardenGoesOn}
use Rattle.protocol_files.proofs.Journals.{all_of_it, known, found_in, found_all}
use Rattle.protocol_files.proofs.Sound.{good_run, sound_warden, up_warden}

-- what is seen stands before what was seen
pub took_front : (i : ℕ) (fs : List Frame) (l : Log) → (more : Log) × (took_all i fs l ≡ more ++ l)
took_front i [] l = ([], refl)
took_front i (f ∷ fs) l = let (more, is) = took_front i fs (took_by i f ++ l) in (more ++ took_by i f, is ∙ sym (append_assoc more (took_by i f) l))

module _ (n f : ℕ) (liar : ℕ → Bool) (s : System) (i : ℕ) (least : 4 * f < n) (run : Run n f liar s) (below : i < n) (own : liar i ≡ false) where
  -- in a run, the warden i is c, and nothing else has changed
  abbrev Goes : Node Warden → Type 0
  Goes c = Run n f liar (with_warden i c s)

  starts : Goes (s.warden i)
  starts = subst (λ (w : ℕ → Node Warden). Run n f liar (record { office = s.office; warden = w; reader = s.reader; bag = s.bag; log = s.log })) (sym (put_own i s.warden)) run

  -- it makes a move
  then_warden : (c c' : Node Warden) → ((t : System) → t.warden i ≡ c → Move n f liar t (with_warden i c' t)) → Goes c → Goes c'
  then_warden c c' move at =
      subst (λ (w : ℕ → Node Warden). Run n f liar (record { office = s.office; warden = w; reader = s.reader; bag = s.bag; log = s.log })) (put_twice i c' c s.warden)
      (then at (move (with_warden i c s) (put_same i c s.warden)))

  falls : (c : Node Warden) (e : Disk) (m : Warden) → Cut c.disk e → Goes c → Goes (fallen e m)
  falls c e m fall = then_warden c (fallen e m) (λ t is. warden_falls i e m below own (subst (λ (c : Node Warden). Cut c.disk e) (sym is) fall))

  scribbles : (c : Node Warden) (g : File) → Goes c → Goes (with_disk (with_beside g c.disk) c)
  scribbles c g = then_warden c (with_disk (with_beside g c.disk) c) (λ t is. subst (λ (c : Node Warden). Move n f liar t (with_warden i (with_disk (with_beside g c.disk) c) t)) is (warden_scribbles i g below own))

  renames : (c : Node Warden) (m : Warden) → Anew roles.Warden warden_of c.disk → Goes c → Goes (fallen (rename c.disk) m)
  renames c m anew =
      then_warden c (fallen (rename c.disk) m) (λ t is. subst (λ (c : Node Warden). Anew roles.Warden warden_of c.disk → Move n f liar t (with_warden i (fallen (rename c.disk) m) t)) is (warden_renames i m below own) anew)

  goes_on : (c : Node Warden) → Goes c → WardenGoesOn n f liar i s c []
  goes_on c at = ([], good_run n f liar (with_warden i c s) least at)

  pub warden_stays_on : WardenGoesOn n f liar i s (s.warden i) []
  warden_stays_on = goes_on (s.warden i) starts

  pub warden_falls_on : (e : Disk) (m : Warden) → Cut (s.warden i).disk e → WardenGoesOn n f liar i s (fallen e m) []
  warden_falls_on e m fall = goes_on (fallen e m) (falls (s.warden i) e m fall starts)

  pub warden_hears_on : (from k : ℕ) (m : Message) → (s.warden i).up ≡ true → Memᴰ (record { from = from; to = i; note = k; message = m }) s.bag →
      WardenGoesOn n f liar i s (stepped n i k (warden_keeps (s.warden i).memory.notes from k m) (s.warden i)) []
  warden_hears_on from k m up at =
      goes_on (stepped n i k (warden_keeps (s.warden i).memory.notes from k m) (s.warden i)) (then run (warden_hear i (record { from = from; to = i; note = k; message = m }) below own up at refl))

  -- the log has grown
  grows : (c : Node Warden) (out : List Packet) (fs : List Frame) → Run n f liar (record { office = s.office; warden = put i c s.warden; reader = s.reader; bag = out ++ s.bag; log = took_all i fs s.log }) → WardenGoesOn n f liar i s c out
  grows c out fs at =
      let (more, is) = took_front i fs s.log in
      (more, good_run n f liar (record { office = s.office; warden = put i c s.warden; reader = s.reader; bag = out ++ s.bag; log = more ++ s.log }) least (subst (λ (l : Log). Run n f liar (record { office = s.office; warden = put i c s.warden; reader = s.reader; bag = out ++ s.bag; log = l })) is at))

  pub warden_flushes_on : (s.warden i).up ≡ true → WardenGoesOn n f liar i s (flushed (s.warden i)) (s.warden i).memory.outbox
  warden_flushes_on up =
      let w = up_warden n f liar s least run i below own up in
      grows (flushed (s.warden i)) (s.warden i).memory.outbox w.new (then run (warden_flushes i w.new below own up w.pending w.more))

  pub warden_opens_on : (fs : List Frame) (rest : List ℕ) → (s.warden i).up ≡ false → Splits roles.Warden (contents (s.warden i).disk.file) fs rest → WardenGoesOn n f liar i s (opened_warden fs (warden_of fs)) []
  warden_opens_on fs rest down splits =
      let (ss, sure, records) = sound_warden n f liar s least run i below own in
      let (ps, is, found) = found_in ss sure records splits in
      subst (λ (gs : List Frame). WardenGoesOn n f liar i s (opened_warden gs (warden_of gs)) []) (sym is)
      (grows (opened_warden (ss ++ ps) (warden_of (ss ++ ps))) [] ps (then run (warden_opens i ss ps rest below own down found)))

  -- ITS FILE IS WRITTEN ANEW
  module _ (fs : List Frame) (records : Records roles.Warden fs) (same : (ss : List Frame) → (s.warden i).disk.file.synced ≡ encode_all ss → Records roles.Warden ss → warden_of fs ≡ warden_of ss) where
    -- the new file
    abbrev fresh : File
    fresh = record { synced = encode_all fs; pending = [] }

    abbrev beside : Node Warden
    beside = with_disk (with_beside fresh (s.warden i).disk) (s.warden i)

    renamed : (m : Warden) → Goes (fallen (rename (with_beside fresh (s.warden i).disk)) m)
    renamed m =
        let (ss, sure, read) = sound_warden n f liar s least run i below own in
        renames beside m (record { old = ss; new = fs; sure = sure; read = read; beside = refl; records = records; same = same ss sure read }) (scribbles (s.warden i) fresh starts)

    pub warden_compacting_on : (e : Disk) (m : Warden) → Cut (rename (with_beside fresh (s.warden i).disk)) e → WardenGoesOn n f liar i s (fallen e m) []
    warden_compacting_on e m fall = goes_on (fallen e m) (falls (fallen (rename (with_beside fresh (s.warden i).disk)) m) e m fall (renamed m))

    pub warden_compacts_on : WardenGoesOn n f liar i s (opened_warden fs (warden_of fs)) []
    warden_compacts_on =
        subst (λ (gs : List Frame). WardenGoesOn n f liar i s (opened_warden gs (warden_of gs)) []) (append-nil fs)
        (goes_on (opened_warden (fs ++ []) (warden_of (fs ++ [])))
        (then_warden down (opened_warden (fs ++ []) (warden_of (fs ++ [])))
        (λ t is. warden_opens i fs [] [] below own (ap (λ (c : Node Warden). c.up) is) (subst (λ (c : Node Warden). Found roles.Warden c.disk.file fs [] []) (sym is) (found_all roles.Warden fs records)))
        (renamed (s.warden i).memory)))
      where
        down : Node Warden
        down = fallen (rename (with_beside fresh (s.warden i).disk)) (s.warden i).memory

  -- by what is synced
  as_synced : (fs : List Frame) → (s.warden i).disk.file.synced ≡ encode_all fs → Records roles.Warden fs → (ss : List Frame) → (s.warden i).disk.file.synced ≡ encode_all ss → Records roles.Warden ss → warden_of fs ≡ warden_of ss
  as_synced fs is a ss sure b = ap warden_of (known roles.Warden fs ss a b (sym is ∙ sure))

  pub warden_restores_on : (fs : List Frame) (rest : List ℕ) → Splits roles.Warden (s.warden i).disk.file.synced fs rest → WardenGoesOn n f liar i s (opened_warden fs (warden_of fs)) []
  warden_restores_on fs rest splits =
      let (ss, sure, records) = sound_warden n f liar s least run i below own in
      let is : ss ≡ fs = (once roles.Warden (s.warden i).disk.file.synced ss fs [] rest (subst (λ (bs : List ℕ). Splits roles.Warden bs ss []) (sym sure) (all_of_it roles.Warden ss records)) splits).0 in
      subst (λ (gs : List Frame). WardenGoesOn n f liar i s (opened_warden gs (warden_of gs)) []) is (warden_compacts_on ss records (as_synced ss sure records))

  pub warden_renewed_on : (e : Disk) (m : Warden) → Cut (rename (with_beside (record { synced = (s.warden i).disk.file.synced; pending = [] }) (s.warden i).disk)) e → WardenGoesOn n f liar i s (fallen e m) []
  warden_renewed_on e m fall =
      let (ss, sure, records) = sound_warden n f liar s least run i below own in
      warden_compacting_on ss records (as_synced ss sure records) e m (subst (λ (bs : List ℕ). Cut (rename (with_beside (record { synced = bs; pending = [] }) (s.warden i).disk)) e) sure fall)
