-- A warden that has replayed all records of its file.
-- Assumes nothing.
use Rattle.std.proofs.Common.{◌≡◌, List, [], ◌∷◌, vec_items, sym, refl, ap, ◌∙◌}
use Rattle.register.specs.Note.{Note}
use Rattle.protocol_tables.specs.Keep.{Keep}
use Rattle.frames.specs.Format.{Frame}
use Rattle.protocol_files.specs.Records.{warden_replays, warden_replays_all}
use Rattle.protocol_files.proofs.Takes.{replays-++}
use Rattle.journal.specs.Replays.{Replayed, none, more}
use Rattle.parties_files.specs.Wardens.{kept, Replays}
use Rattle.parties_files.specs.declared.warden.Warden.{Warden}

pub replayed_all : {w v : Warden} {fs : List Frame} → Replayed Replays w fs v → (kept v ≡ warden_replays_all (kept w) fs) × (vec_items v.outbox ≡ vec_items w.outbox)
replayed_all none = (refl, refl)
replayed_all {w} (more {fs = fs} rest f step) =
    let (notes, outbox) = replayed_all rest in
    (step.notes ∙ ap (λ (d : Keep Note). warden_replays d f) notes ∙ sym (replays-++ (kept w) fs (f ∷ [])), step.outbox ∙ outbox)
