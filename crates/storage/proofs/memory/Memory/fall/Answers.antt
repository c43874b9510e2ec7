use Rattle.std.proofs.Common.{◌≡◌, ℕ, [], sym, subst, ⊎_elim}
use Rattle.protocol_files.specs.Disk.{File, Disk, keep, Cut, left, cut, reverted}
use Rattle.storage.specs.Memories.{disk_of, Reverts}
use Rattle.storage.proofs.Unchanged.{shortened_none}
use Rattle.storage.proofs.memory.Memory.fall.Goals as goal

-- all is left, still pending
all : (d : Disk) → Cut d d
all d = let (k, same) = shortened_none d in subst (λ (e : Disk). Cut d e) (sym same) (left k d.beside)

pub returns-in-Killed-clause-disk : goal.returns-in-Killed-clause-disk
returns-in-Killed-clause-disk c = all (disk_of c.args.self.now)

-- a: the disk before; b: with the file that comes back
back : (a b : Disk) (kept : ℕ) → Reverts a b → Cut a (record { file = keep kept b.file; beside = b.beside; former = [] })
back a b kept (_, from) =
    ⊎_elim
    (λ (same : b.file ≡ a.file). subst (λ (g : File). Cut a (record { file = keep kept g; beside = b.beside; former = [] })) (sym same) (cut kept b.beside))
    (λ m. reverted b.file m kept b.beside)
    from

pub returns-in-Cut-clause-disk : goal.returns-in-Cut-clause-disk
returns-in-Cut-clause-disk c = subst (λ (d : Disk). Cut (disk_of c.args.self.now) d) (sym c.cut.ensures.disk) (cut c.in-Cut.kept (disk_of c.args.self.now).beside)

pub returns-in-Reverted-clause-disk : goal.returns-in-Reverted-clause-disk
returns-in-Reverted-clause-disk c =
    subst (λ (d : Disk). Cut (disk_of c.args.self.now) d) (sym c.cut-in-Reverted.ensures.disk)
    (back (disk_of c.args.self.now) (disk_of c.revert.new.self) c.in-Reverted.kept c.revert.ensures.disk)
