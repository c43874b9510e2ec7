use Rattle.storage.proofs.Unchanged.{shortened_none}
use Rattle.parties_files.proofs.outbox.settle.Goals as goal

pub returns-then-not-known-clause-disk : goal.returns-then-not-known-clause-disk
returns-then-not-known-clause-disk g c = λ d h. (d, h, shortened_none d)
