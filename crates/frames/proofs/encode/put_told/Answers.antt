use Rattle.std.proofs.Common.{length, sym, ap, ◌∙◌, arith, rules}
use Rattle.frames.specs.Format.{encode, valued}
use Rattle.frames.proofs.Bytes.{be_8}
use Rattle.frames.proofs.Room.{then, same, since, length_head, head_rest, value_short}
use Rattle.frames.proofs.encode.put_told.Goals as goal

pub put-requires : goal.put-requires
put-requires c =
    omega (arith, ap length c.to_be_bytes.ensures, c.put_head.ensures.len, c.put_head.ensures.room, c.in_ok-reserve.ensures.ok, length_head 4 c.args.note.0 c.args.round.0)

pub put_value-requires-clause-room : goal.put_value-requires-clause-room
put_value-requires-clause-room c =
    omega (arith, ap length c.to_be_bytes.ensures, c.put.ensures.len, c.put.ensures.room, c.put_head.ensures.len, c.put_head.ensures.room, c.in_ok-reserve.ensures.ok, length_head 4 c.args.note.0 c.args.round.0)

pub returns : goal.returns
unfolding encode
returns c = record {
  items = since c.reserve.ensures.items (head_rest _ _ _ _)
      (then c.put_head.ensures (then (same (c.to_be_bytes.ensures ∙ sym (be_8 c.args.what.now.edition.0)) c.put.ensures) (same (ap valued c.bytes-value.ensures) c.put_value.ensures)));
  fits = (search rules, search rules, (search rules, value_short c.args.what.now.value));
}
