use Rattle.std.proofs.Common.{◌≡◌, ◌++◌}
use Rattle.protocol.specs.Message.{to_each}
use Rattle.parties.specs.Views.{message_of}
use Rattle.rehearsal.specs.Ways.{packets_of}
use Rattle.rehearsal.proofs.way.Way.put_each.Given as goal

abbrev pub invariant-loop-to : goal.invariant-loop-to
invariant-loop-to l = packets_of l.self ≡ packets_of l.initial.self ++ to_each l.to (λ i. record { from = l.from.0; to = i; note = l.note.0; message = message_of l.message })
