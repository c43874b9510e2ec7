use Rattle.std.proofs.Common.{sym, subst, inl, inr}
use Rattle.protocol_files.specs.Disk.{Disk, left, Cut}
use Rattle.parties_files.proofs.warden.Warden.sync_and_answer.Goals as goal

pub returns-in_default-clause-flushed : goal.returns-in_default-clause-flushed
returns-in_default-clause-flushed g c = inl (λ d h. let (e, q, (k, same)) = c.in_default.ensures.disk d h in (e, q, inr (c.fall.ensures.up, subst (λ (x : Disk). Cut d x) (sym same) (left k d.beside))))
