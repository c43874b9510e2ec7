use Rattle.std.proofs.Common.{ap, arith, rules}
use Rattle.frames.specs.Format.{valued}
use Rattle.frames.specs.Views.{number_of}
use Rattle.frames.proofs.Room.{then, same, since, length_head, head_rest, value_short}
use Rattle.frames.proofs.encode.put_valued.Goals as goal

pub put_value-requires-clause-room : goal.put_value-requires-clause-room
put_value-requires-clause-room c =
    omega (arith, c.put_head.ensures.len, c.put_head.ensures.room, c.in_ok-reserve.ensures.ok, length_head (number_of c.args.kind) c.args.note.0 c.args.edition.0)

pub returns : goal.returns
returns c = record {
  items = since c.reserve.ensures.items (head_rest _ _ _ _)
      (then c.put_head.ensures (same (ap valued c.bytes-bytes.ensures) c.put_value.ensures));
  fits = (search rules, value_short c.args.value.now);
}
