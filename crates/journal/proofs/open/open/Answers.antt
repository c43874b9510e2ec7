use Rattle.std.proofs.Common.{◌≤◌, length, sym, ◌∙◌, subst}
use Rattle.protocol_files.specs.Disk.{Disk, blank, contents, with_beside, cut_back, sync_folder, Cut}
use Rattle.journal.specs.Openings.{Sound}
use Rattle.journal.proofs.Cuts.{sound_short, scribbled_left, cut_left, perhaps_left, shortened_left, settled}
use Rattle.std.proofs.lemmas.Result.{err_from_is_err_and}
use Rattle.journal.proofs.Ends.{found}
use Rattle.journal.proofs.open.open.Given.{Over}
use Rattle.journal.proofs.open.open.Goals as goal
use Rattle.journal.proofs.open.open.Goals.{In_ok-whole}

-- what is synced are whole records, and so no more than those that were found
short : (g : Over) (c : In_ok-whole g) (d : Disk) → g.S.Storage.holds c.args.store.now d → Sound c.args.role d → length d.file.synced ≤ c.in_ok-whole.whole
short g c d h sound =
    let l = c.in_ok-whole.ensures.loads.loading in
    let d1 = with_beside blank d in
    let h1 = c.in_ok-clear_beside.ensures.disk d h in
    sound_short c.args.role d l.frames c.in_ok-whole.whole sound l.records l.size (l.front d1 h1) (c.in_ok-whole.ensures.loads.ends d1 h1)

pub returns-then-not-condition-clause-opened : goal.returns-then-not-condition-clause-opened
returns-then-not-condition-clause-opened g c = λ d h sound. (d, h, scribbled_left d d.beside)

pub returns-in_err-clear_beside-clause-opened : goal.returns-in_err-clear_beside-clause-opened
returns-in_err-clear_beside-clause-opened g c =
    let p = err_from_is_err_and c.from_residual.result c.from_residual.ensures.1 in
    rw p.1 (λ d h sound. let (e, q, (file, same)) = c.in_err-clear_beside.ensures.disk d h in (e, q, subst (λ (x : Disk). Cut d x) (sym same) (scribbled_left d file)))

pub returns-in_err-whole-clause-opened : goal.returns-in_err-whole-clause-opened
returns-in_err-whole-clause-opened g c =
    let p = err_from_is_err_and c.from_residual-in_err-whole.result c.from_residual-in_err-whole.ensures.1 in
    rw p.1 (λ d h sound. (with_beside blank d, c.in_err-whole.ensures.disk (with_beside blank d) (c.in_ok-clear_beside.ensures.disk d h), scribbled_left d blank))

pub returns-in_err-opening-clause-opened : goal.returns-in_err-opening-clause-opened
returns-in_err-opening-clause-opened g c =
    let p = err_from_is_err_and c.from_residual-in_err-opening.result c.from_residual-in_err-opening.ensures.1 in
    rw p.1 (λ d h sound.
    let d1 = with_beside blank d in
    let (e, q, perhaps) = c.in_err-opening.ensures.disk d1 (c.in_ok-whole.ensures.disk d1 (c.in_ok-clear_beside.ensures.disk d h)) in
    (e, q, perhaps_left d c.in_ok-whole.whole (short g (goal.at.returns-in_err-opening-clause-opened g c).In_ok-whole d h sound) e perhaps))

pub returns-in_err-sync_folder-clause-opened : goal.returns-in_err-sync_folder-clause-opened
returns-in_err-sync_folder-clause-opened g c =
    let n = c.in_ok-whole.whole in
    let p = err_from_is_err_and c.from_residual-in_err-sync_folder.result c.from_residual-in_err-sync_folder.ensures.1 in
    rw p.1 (λ d h sound.
    let d1 = with_beside blank d in
    let h2 = c.in_ok-opening.ensures.disk d1 (c.in_ok-whole.ensures.disk d1 (c.in_ok-clear_beside.ensures.disk d h)) in
    (cut_back n d1, c.in_err-sync_folder.ensures.disk (cut_back n d1) h2, cut_left d n (short g (goal.at.returns-in_err-sync_folder-clause-opened g c).In_ok-whole d h sound)))

pub returns-in_err-sync-clause-opened : goal.returns-in_err-sync-clause-opened
returns-in_err-sync-clause-opened g c =
    let n = c.in_ok-whole.whole in
    let p = err_from_is_err_and c.from_residual-in_err-sync.result c.from_residual-in_err-sync.ensures.1 in
    rw p.1 (λ d h sound.
    let d1 = with_beside blank d in
    let h2 = c.in_ok-opening.ensures.disk d1 (c.in_ok-whole.ensures.disk d1 (c.in_ok-clear_beside.ensures.disk d h)) in
    let (e, q, less) = c.in_err-sync.ensures.disk (sync_folder (cut_back n d1)) (c.in_ok-sync_folder.ensures.disk (cut_back n d1) h2) in
    (e, q, shortened_left d n (short g (goal.at.returns-in_err-sync-clause-opened g c).In_ok-whole d h sound) e less))

pub returns-clause-opened : goal.returns-clause-opened
returns-clause-opened g c =
    let clear = c.in_ok-clear_beside.ensures in
    let load = c.in_ok-whole.ensures in
    let cuts = c.in_ok-opening.ensures in
    let n = c.in_ok-whole.whole in
    let o = c.in_ok-opening.opening in
    let l = load.loads.loading in
    let window = c.deref.result.now in
    let damaged = cuts.damaged in
    record {
      frames = l.frames;
      replayed = l.replayed;
      found = λ d h. let d1 = with_beside blank d in let h1 = clear.disk d h in found c.args.role (contents d.file) window l.frames n o l.records l.size (l.front d1 h1) (load.loads.ends d1 h1) (cuts.cut d1 (load.disk d1 h1)) (c.deref.ensures.value ∙ load.loads.rest d1 h1) damaged;
      left = λ d h.
          let d1 = with_beside blank d in
          let h1 = clear.disk d h in
          subst (λ (x : Disk). g.S.Storage.holds c.sync.new.self x) (settled d l.frames n l.size (l.front d1 h1))
          (c.in_ok-sync.ensures.disk (sync_folder (cut_back n d1)) (c.in_ok-sync_folder.ensures.disk (cut_back n d1) (cuts.disk d1 (load.disk d1 h1))));
    }
