use Rattle.std.proofs.Common.{◌<◌, vec_items, vec_len, ap, ◌∙◌, arith, rules}
use Rattle.register.specs.Count.{put}
use Rattle.register.specs.Note.{Note, none}
use Rattle.protocol_tables.specs.Keep.{Keep, empty}
use Rattle.parties_tables.specs.Wardens.{notes_of}
use Rattle.rehearsal.specs.Casts.{keeps_of}
use Rattle.rehearsal.proofs.Places.{set_put}
use Rattle.rehearsal.proofs.cast.Cast.forget.Goals as goal

pub returns-clause-wardens : goal.returns-clause-wardens
returns-clause-wardens c =
    let i = c.args.warden.index in
    let ws = c.args.self.now.wardens in
    let inside : i < vec_len ws = search rules in
    (inside, set_put notes_of (vec_items ws) i c.new.result (empty none) (omega (arith, inside, ws.ok.0)) ∙ ap (λ (k : Keep Note). put i k (keeps_of (vec_items ws))) c.new.ensures)
