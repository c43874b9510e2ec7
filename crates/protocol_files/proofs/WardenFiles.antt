-- What a warden's files and its memory have to do with what it has without files: what is synced is what it has; what is pending was sent to it, and it would take it.
-- Assumes nothing.
use Rattle.std.proofs.Common.{◌≡◌, ℕ, true, List, [], ◌∷◌, ◌++◌, length, sym, refl, ap, ◌∙◌, subst}
use mathlib.Core.List.{Memᴰ}
use lib.Seq.{take-length}
use Rattle.std.proofs.lemmas.Bool.{cond-false}
use Rattle.register.specs.Note.{Note, none}
use Rattle.register.proofs.Put.{put_same}
use Rattle.protocol.specs.Message.{office, Message, Take, Packet, packets}
use Rattle.protocol.specs.Step.{Step}
use Rattle.protocol.specs.Warden.{WardenDone}
use Rattle.protocol_tables.specs.Keep.{Keep, empty}
use Rattle.protocol_tables.specs.Warden.{takes, warden_keeps}
use Rattle.protocol_tables.proofs.Within.{Within}
use Rattle.protocol_tables.proofs.TableCases.{took_step}
use Rattle.frames.specs.Format.{Frame, Sent, Fits}
use Rattle.frames.specs.Journal.{Records, encode_all}
use Rattle.frames.specs.declared.role.Role.TheVariants as roles
use Rattle.frames.proofs.Records.{encode_all-++, records-++}
use Rattle.protocol_files.specs.Disk.{File, Disk, with_beside, rename, Cut}
use Rattle.protocol_files.specs.Records.{warden_records, warden_replays_all, warden_of}
use Rattle.protocol_files.specs.Nodes.{Node, Warden, new_warden, with_disk, fallen, stepped, flushed, opened_warden}
use Rattle.protocol_files.specs.System.{Found, Anew}
use Rattle.protocol_files.proofs.Journals.{Has, sure_only, keeps, known, finds}
use Rattle.protocol_files.proofs.Disks.{Each, one, first, each_cut, each_more, each_same}
use Rattle.protocol_files.proofs.Takes.{Heard, took, other, heard, Taken, replays-++, taken-++, taken_take, taken_more, taken_records}

-- what came to a warden since it had d: what it has now, what it wrote, and what it answers
pub data Batch (n i : ℕ) (bag : List Packet) (d : Keep Note) : Keep Note → List Frame → List Packet → Type 0 where
  nothing : Batch n i bag d d [] []
  hear : {notes : Keep Note} {records : List Frame} {outbox : List Packet} → Batch n i bag d notes records outbox → (p : Packet) → Memᴰ p bag → p.to ≡ i →
      Batch n i bag d (warden_keeps notes p.from p.note p.message).next
      (records ++ warden_records p.note (warden_keeps notes p.from p.note p.message))
      (outbox ++ packets n i p.note (warden_keeps notes p.from p.note p.message).sends)

-- what the office sends has room in a record
abbrev pub OfficeFits : List Packet → Type 0
OfficeFits bag = (to k : ℕ) (x : Note) → Memᴰ (record { from = office; to = to; note = k; message = Take x }) bag → Fits (Sent k (Take x))

pub batch_more : {n i : ℕ} {bag more : List Packet} {d notes : Keep Note} {records : List Frame} {outbox : List Packet} → Within bag more → Batch n i bag d notes records outbox → Batch n i more d notes records outbox
batch_more within nothing = nothing
batch_more within (hear before p m to) = hear (batch_more within before) p (within p m) to

module _ (i : ℕ) (bag : List Packet) (fits : OfficeFits bag) where
  -- what a warden writes when something comes to it, it takes; and that is how it has what it has then
  abbrev pub Writes : (k : ℕ) (notes : Keep Note) → Step (Keep Note) WardenDone → Type 0
  Writes k notes o = Taken i bag notes (warden_records k o) × (warden_replays_all notes (warden_records k o) ≡ o.next)

  pub writes_by : (notes : Keep Note) (from k : ℕ) (m : Message) → Memᴰ (record { from = from; to = i; note = k; message = m }) bag → {o : Step (Keep Note) WardenDone} → warden_keeps notes from k m ≡ o → Heard notes from k m o → Writes k notes o
  writes_by notes from k m at is (took x sent late roomy) =
      rw (put_same k x notes.at) (let step : warden_keeps notes office k (Take x) ≡ took_step k x notes = subst (λ (c : ℕ). warden_keeps notes c k (Take x) ≡ took_step k x notes) sent is in
      let from_office = subst (λ (c : ℕ). Memᴰ (record { from = c; to = i; note = k; message = Take x }) bag) sent at in
      ((record { about = k; text = x; is = refl; fits = fits i k x from_office; sent = from_office; late = late; step = step }, tt), ap (λ (o : Step (Keep Note) WardenDone). o.next) step))
  writes_by notes from k m at is (other sends out no_take tells) =
      subst (λ (fs : List Frame). Taken i bag notes fs × (warden_replays_all notes fs ≡ notes)) (sym (cond-false (takes out) (Sent k (Take (notes.at k)) ∷ []) [] no_take)) (tt, refl)

  pub batch_taken : {n : ℕ} {d notes : Keep Note} {records : List Frame} {outbox : List Packet} → Batch n i bag d notes records outbox → Taken i bag d records × (warden_replays_all d records ≡ notes)
  batch_taken nothing = (tt, refl)
  batch_taken {d = d} (hear {notes = notes} {records = records} before p m to) =
      let (taken, is) = batch_taken before in
      let o = warden_keeps notes p.from p.note p.message in
      let (more, then) = writes_by notes p.from p.note p.message (subst (λ (c : ℕ). Memᴰ (record { from = p.from; to = c; note = p.note; message = p.message }) bag) to m) refl (heard notes p.from p.note p.message) in
      (taken-++ i bag d records (warden_records p.note o) taken (rw is more), replays-++ d records (warden_records p.note o) ∙ ap (λ (c : Keep Note). warden_replays_all c (warden_records p.note o)) is ∙ then)

-- a file from which a warden that has d may come up
pub record WardenFile (i : ℕ) (bag : List Packet) (d : Keep Note) (g : File) : Type 0 where
  pub old : List Frame
  pub new : List Frame
  pub has : Has roles.Warden g old new
  pub means : warden_of old ≡ d
  pub taken : Taken i bag d new

-- a warden at work
pub record WardenUp (n i : ℕ) (bag : List Packet) (d : Keep Note) (c : Node Warden) : Type 0 where
  pub former : c.disk.former ≡ []
  pub written : List Frame
  pub batch : Batch n i bag d c.memory.notes written c.memory.outbox
  pub pending : c.disk.file.pending ≡ encode_all written

pub record WardenShows (n i : ℕ) (bag : List Packet) (d : Keep Note) (c : Node Warden) : Type 0 where
  pub files : Each (WardenFile i bag d) c.disk.file c.disk.former
  pub working : c.up ≡ true → WardenUp n i bag d c

-- nothing is pending, and it means d
sure_file : (i : ℕ) (bag : List Packet) {d : Keep Note} {g : File} (fs : List Frame) → g.synced ≡ encode_all fs → Records roles.Warden fs → g.pending ≡ [] → warden_of fs ≡ d → WardenFile i bag d g
sure_file i bag fs sure records none means = record { old = fs; new = []; has = sure_only fs sure records none; means = means; taken = tt }

module _ (n i : ℕ) (bag : List Packet) (d : Keep Note) (c : Node Warden) (h : WardenShows n i bag d c) where
  abbrev Files : Disk → Type 0
  Files e = Each (WardenFile i bag d) e.file e.former

  pub warden_more : {more : List Packet} → Within bag more → WardenShows n i more d c
  warden_more {more} within =
      record {
        files = each_same (WardenFile i bag d) (WardenFile i more d) c.disk.file c.disk.former (λ g f. record { old = f.old; new = f.new; has = f.has; means = f.means; taken = taken_more i bag within d f.new f.taken }) h.files;
        working = λ up. let w = h.working up in record { former = w.former; written = w.written; batch = batch_more within w.batch; pending = w.pending };
      }

  -- the file in use
  pub file_in_use : WardenFile i bag d c.disk.file
  file_in_use = first (WardenFile i bag d) c.disk.file c.disk.former h.files

  -- whatever it falls to, it has no more and no less
  pub warden_cut : {e : Disk} → Cut c.disk e → Files e
  warden_cut {e} fall = each_cut (WardenFile i bag d) (λ k g f. record { old = f.old; new = f.new; has = keeps k f.has; means = f.means; taken = f.taken }) fall h.files

  pub warden_falls : {e : Disk} → Cut c.disk e → (m : Warden) → WardenShows n i bag d (fallen e m)
  warden_falls fall m = record { files = warden_cut fall; working = λ up. cc }

  pub warden_scribbles : (g : File) → WardenShows n i bag d (with_disk (with_beside g c.disk) c)
  warden_scribbles g = record { files = h.files; working = λ up. let w = h.working up in record { former = w.former; written = w.written; batch = w.batch; pending = w.pending } }

  pub warden_renames : Anew roles.Warden warden_of c.disk → (m : Warden) → WardenShows n i bag d (fallen (rename c.disk) m)
  warden_renames anew m =
      record {
        files = each_more (WardenFile i bag d) c.disk.beside c.disk.file c.disk.former
            (sure_file i bag anew.new (ap (λ (g : File). g.synced) anew.beside) anew.records (ap (λ (g : File). g.pending) anew.beside)
            (anew.same ∙ ap warden_of (known roles.Warden anew.old file_in_use.old anew.read file_in_use.has.records (sym anew.sure ∙ file_in_use.has.sure)) ∙ file_in_use.means))
            h.files;
        working = λ up. cc;
      }

  -- what it finds on its file it has, and would take
  pub warden_finds : {g : File} {ss ps : List Frame} {rest : List ℕ} → WardenFile i bag d g → Found roles.Warden g ss ps rest → Taken i bag d ps × (warden_of ss ≡ d)
  warden_finds {g} {ss} {ps} f found =
      let (m, is, are) = finds f.has found in
      (rw are (taken_take i bag m d f.new f.taken), ap warden_of is ∙ f.means)

  pub warden_opens : {ss ps : List Frame} {rest : List ℕ} → Found roles.Warden c.disk.file ss ps rest →
      Taken i bag d ps × ((more : List Packet) → WardenShows n i more (warden_replays_all d ps) (opened_warden (ss ++ ps) (warden_of (ss ++ ps))))
  warden_opens {ss} {ps} found =
      let (taken, is) = warden_finds file_in_use found in
      let all : warden_of (ss ++ ps) ≡ warden_replays_all d ps = replays-++ (empty none) ss ps ∙ ap (λ (k : Keep Note). warden_replays_all k ps) is in (
        taken,
        λ more. record {
          files = one (WardenFile i more (warden_replays_all d ps)) (sure_file i more (ss ++ ps) refl found.splits.records refl all);
          working = λ _. record { former = refl; written = []; batch = rw all nothing; pending = refl };
        },
      )

  module _ (fits : OfficeFits bag) (up : c.up ≡ true) where
    abbrev at_work : WardenUp n i bag d c
    at_work = h.working up

    -- a packet comes to it
    pub warden_hears : (p : Packet) → Memᴰ p bag → p.to ≡ i → WardenShows n i bag d (stepped n i p.note (warden_keeps c.memory.notes p.from p.note p.message) c)
    warden_hears p m to = record { files = subst (Each (WardenFile i bag d) next) (sym at_work.former) (one (WardenFile i bag d) file); working = λ _. record { former = at_work.former; written = at_work.written ++ records; batch = batch; pending = pending } }
      where
        records : List Frame
        records = warden_records p.note (warden_keeps c.memory.notes p.from p.note p.message)

        next : File
        next = record { synced = c.disk.file.synced; pending = c.disk.file.pending ++ encode_all records }

        batch : Batch n i bag d (warden_keeps c.memory.notes p.from p.note p.message).next (at_work.written ++ records) (c.memory.outbox ++ packets n i p.note (warden_keeps c.memory.notes p.from p.note p.message).sends)
        batch = hear at_work.batch p m to

        pending : c.disk.file.pending ++ encode_all records ≡ encode_all (at_work.written ++ records)
        pending = ap (λ (bs : List ℕ). bs ++ encode_all records) at_work.pending ∙ sym (encode_all-++ at_work.written records)

        taken : Taken i bag d (at_work.written ++ records)
        taken = (batch_taken i bag fits batch).0

        file : WardenFile i bag d next
        file =
            record {
              old = file_in_use.old;
              new = at_work.written ++ records;
              has = record { sure = file_in_use.has.sure; records = file_in_use.has.records; more = taken_records i bag d (at_work.written ++ records) taken; bytes = length (encode_all (at_work.written ++ records)); torn = pending ∙ sym (take-length (encode_all (at_work.written ++ records))) };
              means = file_in_use.means;
              taken = taken;
            }

    -- what is pending is what it wrote
    pub warden_wrote : (fs : List Frame) → c.disk.file.pending ≡ encode_all fs → Records roles.Warden fs → fs ≡ at_work.written
    warden_wrote fs is records = known roles.Warden fs at_work.written records (taken_records i bag d at_work.written (batch_taken i bag fits at_work.batch).0) (sym is ∙ at_work.pending)

    -- it syncs
    pub warden_flushes : (more : List Packet) → WardenShows n i more c.memory.notes (flushed c)
    warden_flushes more =
        let (taken, is) = batch_taken i bag fits at_work.batch in
        record {
          files = subst (Each (WardenFile i more c.memory.notes) (flushed c).disk.file) (sym at_work.former) (one (WardenFile i more c.memory.notes) (sure_file i more (file_in_use.old ++ at_work.written) sure (records-++ roles.Warden file_in_use.old at_work.written file_in_use.has.records (taken_records i bag d at_work.written taken)) refl (replays-++ (empty none) file_in_use.old at_work.written ∙ ap (λ (k : Keep Note). warden_replays_all k at_work.written) file_in_use.means ∙ is)));
          working = λ _. record { former = at_work.former; written = []; batch = nothing; pending = refl };
        }
      where
        sure : c.disk.file.synced ++ c.disk.file.pending ≡ encode_all (file_in_use.old ++ at_work.written)
        sure = ap (λ (bs : List ℕ). bs ++ c.disk.file.pending) file_in_use.has.sure ∙ ap (λ (bs : List ℕ). encode_all file_in_use.old ++ bs) at_work.pending ∙ sym (encode_all-++ file_in_use.old at_work.written)

pub new_shows : (n i : ℕ) (bag : List Packet) → WardenShows n i bag (empty none) new_warden
new_shows n i bag = record { files = one (WardenFile i bag (empty none)) (sure_file i bag [] refl tt refl refl); working = λ up. cc }
