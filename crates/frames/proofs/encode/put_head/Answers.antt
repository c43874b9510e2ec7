use Rattle.std.proofs.Common.{[], ◌∷◌, sym, ap, ◌∙◌}
use Rattle.frames.proofs.Bytes.{be_4, be_8}
use Rattle.frames.proofs.Room.{then, same}
use Rattle.frames.proofs.encode.put_head.Goals as goal

pub returns : goal.returns
returns c =
    let kind = same (ap (λ n. n ∷ []) c.from.ensures) c.put.ensures in
    let note = same (c.to_be_bytes.ensures ∙ sym (be_4 c.args.note.0)) c.put-2.ensures in
    let number = same (c.to_be_bytes-2.ensures ∙ sym (be_8 c.args.number)) c.put-3.ensures in
    then kind (then note number)
