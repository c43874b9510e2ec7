-- What the office's files and its memory have to do with what it has without files: what is synced says what it writes, and all of that was sent;
-- where the record of an end is lost it counts again what has come to an end.
-- Assumes nothing.
use Rattle.std.proofs.Common.{◌≡◌, ℕ, zero, suc, ◌^◌, ◌<◌, true, false, eqb, List, [], ◌∷◌, ◌++◌, take, sym, refl, ap, ◌∙◌, subst, arith}
use mathlib.Core.List.{Memᴰ}
use lib.Seq.{take-nil}
use Rattle.std.proofs.lemmas.Bool.{leb-false, eq-eqb, cond-true}
use Rattle.register.specs.Note.{Note}
use Rattle.protocol.specs.Message.{office, Take, Packet}
use Rattle.protocol.specs.Office.{Desk, last_edition, begin_writing}
use Rattle.protocol.specs.Log.{Log}
use Rattle.protocol.specs.Log as events
use Rattle.protocol_tables.specs.Office.{Office, empty_office, office_writes}
use Rattle.protocol_tables.proofs.Orders.{Ordered}
use Rattle.protocol_tables.proofs.Within.{Within}
use Rattle.protocol_tables.proofs.TableCases.{Ready, begun_by}
use Rattle.frames.specs.Format.{Frame, Begun, Ended}
use Rattle.frames.specs.Journal.{Records, encode_all}
use Rattle.frames.specs.declared.role.Role.TheVariants as roles
use Rattle.frames.proofs.Records.{encode_all-++, records-++}
use Rattle.protocol_files.specs.Disk.{File, Disk, append, sync, with_beside, rename, Cut}
use Rattle.protocol_files.specs.Records.{office_replays, office_of}
use Rattle.protocol_files.specs.Nodes.{Node, new_office, with_disk, fallen}
use Rattle.protocol_files.specs.System.{Found, Writable, Anew}
use Rattle.protocol_files.proofs.Journals.{Has, sure_only, keeps, known, finds}
use Rattle.protocol_files.proofs.Disks.{Each, one, first, each_cut, each_more}
use Rattle.protocol_files.proofs.OfficeSteps.{ready_writes, Like, office_replays-++, closed, closes}

-- DESKS: d by the records that are synced, e without files
pub record DeskStands (n k : ℕ) (bag : List Packet) (l : Log) (d e : Desk) : Type 0 where
  pub now : d.now ≡ e.now
  pub busy : e.busy ≡ true → d.busy ≡ true
  pub ended : d.busy ≡ true → e.busy ≡ false → Memᴰ (events.Ended k d.now.edition) l
  pub sent : d.busy ≡ true → (i : ℕ) → i < n → Memᴰ (record { from = office; to = i; note = k; message = Take d.now }) bag

pub record Stands (n : ℕ) (bag : List Packet) (l : Log) (base o : Office) : Type 0 where
  pub desk : (k : ℕ) → DeskStands n k bag l (base.desks.at k) (o.desks.at k)
  pub had : base.desks.had ≡ o.desks.had
  pub many : base.desks.many ≡ o.desks.many

pub desk_more : {n k : ℕ} {bag more : List Packet} {l log : Log} {d e : Desk} → Within bag more → Within l log → DeskStands n k bag l d e → DeskStands n k more log d e
desk_more {k = k} {d = d} packets news h =
    record { now = h.now; busy = h.busy; ended = λ on off. news (events.Ended k d.now.edition) (h.ended on off); sent = λ on i below. packets (record { from = office; to = i; note = k; message = Take d.now }) (h.sent on i below) }

pub stands_more : {n : ℕ} {bag more : List Packet} {l log : Log} {base o : Office} → Within bag more → Within l log → Stands n bag l base o → Stands n more log base o
stands_more packets news h = record { desk = λ k. desk_more packets news (h.desk k); had = h.had; many = h.many }

-- WHAT IS PENDING: nothing; that a writing begins which may begin; or that one has come to an end
pub data Waits (base o : Office) : List Frame → Type 0 where
  idle : Waits base o []
  starts : (k : ℕ) (v : List ℕ) → Writable k v → Ready base k → Waits base o (Begun k (begin_writing (base.desks.at k) v).next.now ∷ [])
  stops : (k : ℕ) → k < 2 ^ 32 → (base.desks.at k).now.edition < 2 ^ 64 → (base.desks.at k).busy ≡ true → (o.desks.at k).busy ≡ false → Waits base o (Ended k (base.desks.at k).now.edition ∷ [])

pub start_fits : {a : Office} {k : ℕ} (v : List ℕ) → Writable k v → Ready a k → Records roles.Office (Begun k (begin_writing (a.desks.at k) v).next.now ∷ [])
start_fits {a} {k} v (small, short) ready =
    let low = leb-false last_edition (a.desks.at k).now.edition ready.low in
    let room : suc (a.desks.at k).now.edition < 2 ^ 64 = omega arith in
    (((small, (room, short)), refl), tt)

waits_records : {base o : Office} {fs : List Frame} → Waits base o fs → Records roles.Office fs
waits_records idle = tt
waits_records {base} (starts k v fits ready) = start_fits v fits ready
waits_records (stops k small low on off) = (((small, low), refl), tt)

waits_take : (m : ℕ) {base o : Office} {fs : List Frame} → Waits base o fs → Waits base o (take m fs)
waits_take zero w = idle
waits_take (suc m) idle = idle
waits_take (suc m) {base} {o} (starts k v fits ready) = rw (take-nil {A = Frame} m) (starts k v fits ready)
waits_take (suc m) {base} {o} (stops k small low on off) = rw (take-nil {A = Frame} m) (stops k small low on off)

-- a file from which the office may come up
pub record OfficeFile (base o : Office) (g : File) : Type 0 where
  pub old : List Frame
  pub new : List Frame
  pub has : Has roles.Office g old new
  pub means : office_of old ≡ base
  pub waits : Waits base o new

-- the office at work
pub record OfficeUp (base o : Office) (c : Node Office) : Type 0 where
  pub former : c.disk.former ≡ []
  pub pending : c.disk.file.pending ≡ []
  pub like : Like c.memory base
  pub order : Ordered c.memory
  pub same : (k : ℕ) → (o.desks.at k).busy ≡ true → c.memory.desks.at k ≡ o.desks.at k

pub record OfficeShows (n : ℕ) (bag : List Packet) (l : Log) (o : Office) (c : Node Office) : Type 0 where
  pub base : Office
  pub files : Each (OfficeFile base o) c.disk.file c.disk.former
  pub stands : Stands n bag l base o
  pub working : c.up ≡ true → OfficeUp base o c

-- nothing is pending
pub sure_file : (o : Office) {base : Office} {g : File} (fs : List Frame) → g.synced ≡ encode_all fs → Records roles.Office fs → g.pending ≡ [] → office_of fs ≡ base → OfficeFile base o g
sure_file o fs sure records none means = record { old = fs; new = []; has = sure_only fs sure records none; means = means; waits = idle }

-- WHAT THE RECORDS MEAN: a writing that begins, and one that has come to an end
pub begun_means : (base : Office) (fs : List Frame) (k : ℕ) (v : List ℕ) → office_of fs ≡ base → Ready base k → office_of (fs ++ (Begun k (begin_writing (base.desks.at k) v).next.now ∷ [])) ≡ (begun_by base k (begin_writing (base.desks.at k) v)).next
begun_means base fs k v is ready =
    office_replays-++ empty_office fs (Begun k x ∷ [])
    ∙ ap (λ (o : Office). office_replays o (Begun k x)) is
    ∙ cond-true (eqb x.edition (suc (base.desks.at k).now.edition)) (office_writes base k v).next base (eq-eqb (suc (base.desks.at k).now.edition) (suc (base.desks.at k).now.edition) refl)
    ∙ ap (λ s. s.next) (ready_writes base k v (base.desks.at k) ready refl)
  where
    x : Note
    x = (begin_writing (base.desks.at k) v).next.now

pub ended_means : (base : Office) (fs : List Frame) (k : ℕ) → office_of fs ≡ base → (base.desks.at k).busy ≡ true → office_of (fs ++ (Ended k (base.desks.at k).now.edition ∷ [])) ≡ closed base k
ended_means base fs k is on =
    office_replays-++ empty_office fs (Ended k (base.desks.at k).now.edition ∷ [])
    ∙ ap (λ (o : Office). office_replays o (Ended k (base.desks.at k).now.edition)) is
    ∙ closes base k on

module _ (n : ℕ) (bag : List Packet) (l : Log) (o : Office) (c : Node Office) (h : OfficeShows n bag l o c) where
  pub office_more : {more : List Packet} {log : Log} → Within bag more → Within l log → OfficeShows n more log o c
  office_more packets news = record { base = h.base; files = h.files; stands = stands_more packets news h.stands; working = h.working }

  pub office_falls : {e : Disk} → Cut c.disk e → (m : Office) → OfficeShows n bag l o (fallen e m)
  office_falls fall m =
      record {
        base = h.base;
        files = each_cut (OfficeFile h.base o) (λ k g f. record { old = f.old; new = f.new; has = keeps k f.has; means = f.means; waits = f.waits }) fall h.files;
        stands = h.stands;
        working = λ up. cc;
      }

  pub office_scribbles : (g : File) → OfficeShows n bag l o (with_disk (with_beside g c.disk) c)
  office_scribbles g = record { base = h.base; files = h.files; stands = h.stands; working = λ up. let w = h.working up in record { former = w.former; pending = w.pending; like = w.like; order = w.order; same = w.same } }

  pub now_file : OfficeFile h.base o c.disk.file
  now_file = first (OfficeFile h.base o) c.disk.file c.disk.former h.files

  pub office_renames : Anew roles.Office office_of c.disk → (m : Office) → OfficeShows n bag l o (fallen (rename c.disk) m)
  office_renames anew m =
      record {
        base = h.base;
        files = each_more (OfficeFile h.base o) c.disk.beside c.disk.file c.disk.former
            (sure_file o anew.new (ap (λ (g : File). g.synced) anew.beside) anew.records (ap (λ (g : File). g.pending) anew.beside)
            (anew.same ∙ ap office_of (known roles.Office anew.old now_file.old anew.read now_file.has.records (sym anew.sure ∙ now_file.has.sure)) ∙ now_file.means))
            h.files;
        stands = h.stands;
        working = λ up. cc;
      }

  -- what it finds on its file
  pub office_finds : {ss ps : List Frame} {rest : List ℕ} → Found roles.Office c.disk.file ss ps rest → Waits h.base o ps × (office_of ss ≡ h.base)
  office_finds {ss} {ps} found =
      let (m, is, are) = finds now_file.has found in
      (rw are (waits_take m now_file.waits), ap office_of is ∙ now_file.means)

  module _ (up : c.up ≡ true) where
    at_work : OfficeUp h.base o c
    at_work = h.working up

    -- it has written records, which are synced, and goes on as m
    pub office_records : (o' : Office) (more : List Packet) (log : Log) (fs : List Frame) (base m : Office) → Records roles.Office fs → office_of (now_file.old ++ fs) ≡ base → Stands n more log base o' → Like m base → Ordered m → ((k : ℕ) → (o'.desks.at k).busy ≡ true → m.desks.at k ≡ o'.desks.at k) →
        OfficeShows n more log o' (record { disk = sync (append (encode_all fs) c.disk); up = c.up; memory = m })
    office_records o' more log fs base m records means stands like order same =
        record {
          base = base;
          files = subst (Each (OfficeFile base o') (sync (append (encode_all fs) c.disk)).file) (sym at_work.former) (one (OfficeFile base o') (sure_file o' (now_file.old ++ fs) sure (records-++ roles.Office now_file.old fs now_file.has.records records) refl means));
          stands = stands;
          working = λ _. record { former = at_work.former; pending = refl; like = like; order = order; same = same };
        }
      where
        sure : c.disk.file.synced ++ (c.disk.file.pending ++ encode_all fs) ≡ encode_all (now_file.old ++ fs)
        sure = ap (λ (bs : List ℕ). c.disk.file.synced ++ (bs ++ encode_all fs)) at_work.pending ∙ ap (λ (bs : List ℕ). bs ++ encode_all fs) now_file.has.sure ∙ sym (encode_all-++ now_file.old fs)

    -- it could not: some first bytes stand on its file
    pub office_stops : (o' : Office) (more : List Packet) (log : Log) (fs : List Frame) (j : ℕ) (m : Office) → Waits h.base o' fs → Stands n more log h.base o' →
        OfficeShows n more log o' (record { disk = append (take j (encode_all fs)) c.disk; up = false; memory = m })
    office_stops o' more log fs j m waits stands =
        record {
          base = h.base;
          files = subst (Each (OfficeFile h.base o') (append (take j (encode_all fs)) c.disk).file) (sym at_work.former) (one (OfficeFile h.base o') (record {
            old = now_file.old;
            new = fs;
            has = record { sure = now_file.has.sure; records = now_file.has.records; more = waits_records waits; bytes = j; torn = ap (λ (bs : List ℕ). bs ++ take j (encode_all fs)) at_work.pending };
            means = now_file.means;
            waits = waits;
          }));
          stands = stands;
          working = λ up. cc;
        }

pub new_shows : (n : ℕ) → OfficeShows n [] [] empty_office new_office
new_shows n =
    record {
      base = empty_office;
      files = one (OfficeFile empty_office empty_office) (sure_file empty_office [] refl tt refl refl);
      stands = record { desk = λ k. record { now = refl; busy = λ on. on; ended = λ on. cc; sent = λ on. cc }; had = refl; many = refl };
      working = λ up. cc;
    }
