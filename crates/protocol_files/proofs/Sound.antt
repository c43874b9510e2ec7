-- What stands on the files of honest parties in a run: records; and what is in memory is what they say.
-- Assumes nothing.
use Rattle.std.proofs.Common.{◌≡◌, ℕ, ◌*◌, ◌<◌, Bool, true, false, List, [], ◌++◌, sym, ap, ◌∙◌}
use Rattle.register.specs.Note.{Note, none}
use Rattle.protocol_tables.specs.Keep.{Keep, empty}
use Rattle.frames.specs.Format.{Frame}
use Rattle.frames.specs.Journal.{Records, encode_all}
use Rattle.frames.specs.declared.role.Role.TheVariants as roles
use Rattle.protocol_files.specs.Records.{warden_replays_all, warden_of}
use Rattle.protocol_files.specs.Nodes.{Node, Warden}
use Rattle.protocol_files.specs.System.{System, Run}
use Rattle.protocol_files.specs.Runs.{GoodRun}
use Rattle.protocol_files.proofs.Takes.{replays-++, taken_records}
use Rattle.protocol_files.proofs.WardenFiles.{batch_taken, file_in_use}
use Rattle.protocol_files.proofs.WardenMoves.{bag_fits}
use Rattle.protocol_files.proofs.OfficeFiles.{now_file}
use Rattle.protocol_files.proofs.Refines.{followed, holds}

-- a warden at work: what is synced, what is pending, and what it has
pub record WardenWorks (c : Node Warden) : Type 0 where
  pub former : c.disk.former ≡ []
  pub old : List Frame
  pub new : List Frame
  pub sure : c.disk.file.synced ≡ encode_all old
  pub pending : c.disk.file.pending ≡ encode_all new
  pub records : Records roles.Warden old
  pub more : Records roles.Warden new
  pub notes : c.memory.notes ≡ warden_of (old ++ new)

module _ (n f : ℕ) (liar : ℕ → Bool) (s : System) (least : 4 * f < n) (run : Run n f liar s) where
  pub good_run : GoodRun n f liar s
  good_run = record { run = run; good = holds n f liar least s run }

  pub sound_office : (ss : List Frame) × (s.office.disk.file.synced ≡ encode_all ss) × Records roles.Office ss
  sound_office = let (o, w, b, h) = followed n f liar least run in let file = now_file n b s.log o s.office h.office in (file.old, file.has.sure, file.has.records)

  module _ (i : ℕ) (below : i < n) (own : liar i ≡ false) where
    pub sound_warden : (ss : List Frame) × ((s.warden i).disk.file.synced ≡ encode_all ss) × Records roles.Warden ss
    sound_warden =
        let (o, w, b, h) = followed n f liar least run in
        let file = file_in_use n i s.bag (w i) (s.warden i) (h.warden i below own) in
        (file.old, file.has.sure, file.has.records)

    pub up_warden : (s.warden i).up ≡ true → WardenWorks (s.warden i)
    up_warden up =
        let (o, w, b, h) = followed n f liar least run in
        let file = file_in_use n i s.bag (w i) (s.warden i) (h.warden i below own) in
        let work = (h.warden i below own).working up in
        let (taken, is) = batch_taken i s.bag (bag_fits n f liar s least h) work.batch in
        record {
          former = work.former;
          old = file.old;
          new = work.written;
          sure = file.has.sure;
          pending = work.pending;
          records = file.has.records;
          more = taken_records i s.bag (w i) work.written taken;
          notes = sym (replays-++ (empty none) file.old work.written ∙ ap (λ (d : Keep Note). warden_replays_all d work.written) file.means ∙ is);
        }
