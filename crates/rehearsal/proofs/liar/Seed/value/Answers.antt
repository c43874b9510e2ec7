use Rattle.std.proofs.Common.{ℕ, ◌%◌, ◌<◌, List, [], ◌∷◌, ◌++◌, length, ap, ◌∙◌, add-one, arith}
use Rattle.std.proofs.Math.Seq.{take-suc-set}
use Rattle.rehearsal.specs.Seeds.{stepped, drawn, bytes_by}
use Rattle.rehearsal.proofs.liar.Seed.value.Goals as goal

pub loop-byte-preserved : goal.loop-byte-preserved
loop-byte-preserved c =
    let s = c.draw.new.self.state in
    let i = c.loop-byte.byte-index in
    let items = c.loop-byte.byte-items in
    let draw = c.draw-in-loop-byte in
    let (state, bytes) = c.loop-byte.invariant in
    let inside : i < length items = omega arith in (
      rw add-one (draw.ensures.state ∙ ap stepped state),
      rw add-one (take-suc-set items i (draw.result % 256) inside ∙ (ap (λ (xs : List ℕ). xs ++ draw.result % 256 ∷ []) bytes ∙ ap (λ (d : ℕ). bytes_by i s ++ d % 256 ∷ []) (draw.ensures.value ∙ ap drawn state))),
    )
