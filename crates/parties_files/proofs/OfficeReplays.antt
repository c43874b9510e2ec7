-- An office that has replayed all records of its file.
-- Assumes nothing.
use Rattle.std.proofs.Common.{◌≡◌, List, [], ◌∷◌, sym, refl, ap, ◌∙◌}
use Rattle.protocol_tables.specs.Office as rules
use Rattle.frames.specs.Format.{Frame}
use Rattle.protocol_files.specs.Records.{office_replays, office_replays_all}
use Rattle.protocol_files.proofs.OfficeSteps.{office_replays-++}
use Rattle.journal.specs.Replays.{Replayed, none, more}
use Rattle.parties_files.specs.Offices.{desks_of, Replays}
use Rattle.parties_files.specs.declared.office.Office.{Office}

pub replayed_all : {w v : Office} {fs : List Frame} → Replayed Replays w fs v → (desks_of v ≡ office_replays_all (desks_of w) fs) × (v.desks.quorum ≡ w.desks.quorum)
replayed_all none = (refl, refl)
replayed_all {w} (more {fs = fs} rest f step) =
    let (desks, quorum) = replayed_all rest in
    (step.desks ∙ ap (λ (o : rules.Office). office_replays o f) desks ∙ sym (office_replays-++ (desks_of w) fs (f ∷ [])), step.quorum ∙ quorum)
