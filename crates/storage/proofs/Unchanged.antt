-- A disk that is as it was.
-- Assumes nothing.
use Rattle.std.proofs.Common.{ℕ, List, length, sym, ap, arith}
use Rattle.std.proofs.lemmas.List.{take_all}
use Rattle.protocol_files.specs.Disk.{Disk}
use Rattle.storage.specs.Changes.{Shortened}

pub shortened_none : (d : Disk) → Shortened d d
shortened_none d =
    (length d.file.pending, ap (λ (p : List ℕ). record { file = record { synced = d.file.synced; pending = p }; beside = d.beside; former = d.former }) (sym (take_all (length d.file.pending) d.file.pending (omega arith))))
