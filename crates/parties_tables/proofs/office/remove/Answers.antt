use Rattle.std.proofs.Common.{map, vec_items, eqb, not, ap, ◌∙◌, rules}
use Rattle.std.proofs.lemmas.Fn.{filter_same}
use Rattle.notes.specs.declared.ids.NoteId.{NoteId}
use Rattle.parties_tables.specs.Offices.{number_of}
use Rattle.parties_tables.proofs.Lists.{without_kept}
use Rattle.parties_tables.proofs.office.remove.Goals as goal

pub returns : goal.returns
returns c =
    let k = c.args.number.0 in
    ap (map number_of) (filter_same _ (λ (n : NoteId). not (eqb k n.0)) _ (λ x b f t. Prim.search rules) _ _ c.retain.ensures.filtered) ∙ without_kept number_of k (vec_items c.args.numbers.now)
