use Rattle.std.proofs.Common.{rules}
use Rattle.frames.proofs.Fronts.{record_from}
use Rattle.frames.proofs.record.first_record.Goals as goal

pub returns : goal.returns
returns c = record_from c.args.bytes.now c.args.role (λ x held says. search rules) c.first.result c.filter.result c.first.ensures c.filter.ensures
