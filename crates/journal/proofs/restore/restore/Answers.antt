use Rattle.std.proofs.Common.{◌≡◌, ◌⊎◌, sym, subst, inl, inr, ⊎_elim}
use Rattle.std.proofs.lemmas.Result.{err_from_is_err_and}
use Rattle.protocol_files.specs.Disk.{Disk, rename, Cut}
use Rattle.storage.specs.Changes.{Scribbled, Perhaps}
use Rattle.journal.specs.Openings.{with_copy, renewed}
use Rattle.journal.proofs.Cuts.{scribbled_left}
use Rattle.journal.proofs.restore.restore.Goals as goal

-- the copy stands beside, or has taken the place of the file
either : (d e : Disk) → Perhaps rename (with_copy d) e → Scribbled d e ⊎ Cut (renewed d) e
either d e = ⊎_elim (λ same. inl ((with_copy d).beside, same)) (λ (same : e ≡ renewed d). inr (subst (λ (x : Disk). Cut (renewed d) x) (sym same) (scribbled_left (renewed d) (renewed d).beside)))

pub returns-in_err-rename-clause-restored : goal.returns-in_err-rename-clause-restored
returns-in_err-rename-clause-restored g c =
    let p = err_from_is_err_and c.from_residual-in_err-rename.result c.from_residual-in_err-rename.ensures.1 in
    rw p.1 (λ d h sound. let (e, q, perhaps) = c.in_err-rename.ensures.disk (with_copy d) (c.in_ok-copy_sure.ensures.disk d h) in (e, q, either d e perhaps))
