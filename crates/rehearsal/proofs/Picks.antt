-- The message that is found at a place is the one that is picked.
-- Assumes nothing.
use Rattle.std.proofs.Common.{◌≡◌, ℕ, ◌+◌, ◌<◌, List, ◌∷◌, ◌++◌, length, get_or, take, drop, sym, ap, ◌∙◌, arith}
use Rattle.std.proofs.lemmas.List.{take-append-drop, drop_more, length-take-le, get_or-take}
use Rattle.rehearsal.specs.Ways.{meant, Absent, First, Picked}
use Rattle.rehearsal.specs.declared.way.Packet.{Packet}
use Rattle.rehearsal.specs.declared.way.Which.{Which}

module _ (w : Which) (ps : List Packet) (i : ℕ) (p : Packet) (f : First w ps i) (e : p ≡ get_or ps i p) where
  pub parts : ps ≡ take i ps ++ p ∷ drop (i + 1) ps
  parts = sym (take-append-drop i ps) ∙ ap (λ t. take i ps ++ t) (drop_more ps i p f.inside ∙ ap (λ q. q ∷ drop (i + 1) ps) (sym e))

  pub none : Absent w (take i ps)
  none k d h =
      let fits : length (take i ps) ≡ i = length-take-le i ps (let l = f.inside in omega arith) in
      let below : k < i = omega arith in
      ap (meant w) (get_or-take i ps k d below) ∙ f.before k d below

  abbrev pub picked : Picked w ps p
  picked = record { older = take i ps; newer = drop (i + 1) ps; all = parts; hit = ap (meant w) e ∙ f.hit p; first = none }
