use Rattle.std.proofs.Common.{List, ◌++◌, map, ap, ◌∙◌, arith}
use Rattle.std.proofs.lemmas.List.{take_all}
use Rattle.parties_tables.specs.Offices.{letter_of}
use Rattle.parties_tables.specs.declared.office.Letter.{Letter as CodeLetter}
use Rattle.rehearsal.specs.Ways.{packets_of}
use Rattle.rehearsal.specs.Scenes.{wardens_of, posted}
use Rattle.rehearsal.specs.declared.cast.Cast.{Cast}
use Rattle.rehearsal.proofs.Sends.{post_more}
use Rattle.rehearsal.proofs.stage.Stage.post.Goals as goal

pub loop-letter-preserved : goal.loop-letter-preserved
loop-letter-preserved c =
    let (cast, seed, way) = c.loop-letter.invariant in
    let sent = c.in_ok-send.ensures in (
      sent.cast ∙ cast,
      sent.seed ∙ seed,
      post_more _ _ _ _ _ c.args.letters.now c.loop-letter.letter-index c.letter-item.result (omega arith) c.letter-item.is (ap (λ (k : Cast). k.office.quorum.wardens) cast) way sent.way,
    )

pub returns : goal.returns
returns c =
    let (cast, seed, way) = c.loop-letter.invariant in
    record {
      cast = cast;
      seed = seed;
      way = way ∙ ap (λ (ls : List CodeLetter). packets_of c.args.self.now.way ++ posted (wardens_of c.args.self.now) (map letter_of ls)) (take_all c.loop-letter.letter-index c.args.letters.now (omega arith));
    }
