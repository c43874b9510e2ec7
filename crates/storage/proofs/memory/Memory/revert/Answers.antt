use Rattle.std.proofs.Common.{List, [], ◌∷◌, map, vec_items, sym, refl, ap, ◌∙◌, subst, inr}
use mathlib.Core.List.Memᴰ
use mathlib.Core.List.{Memᴰ}
use Rattle.std.proofs.lemmas.List.{map-append}
use Rattle.protocol_files.specs.Disk.{File}
use Rattle.storage.specs.Memories.{file_of}
use Rattle.storage.proofs.memory.Memory.revert.Goals as goal

pub returns-in-Some-clause-disk : goal.returns-in-Some-clause-disk
returns-in-Some-clause-disk c =
    let split = sym (map-append file_of (vec_items c.pop.new.self) (c.in-Some.file ∷ [])) ∙ ap (map file_of) (sym c.in-Some.ensures.items) in
    (refl, inr (subst (λ (gs : List File). Memᴰ (file_of c.in-Some.file) gs) split (Memᴰ.append_right (map file_of (vec_items c.pop.new.self)) (Memᴰ.head refl))))
