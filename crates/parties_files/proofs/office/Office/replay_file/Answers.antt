use Rattle.std.proofs.Common.{refl, ap, ◌∙◌}
use Rattle.protocol_tables.specs.Office as rules
use Rattle.protocol_files.specs.Records.{office_replays_all}
use Rattle.parties_files.proofs.OfficeReplays.{replayed_all}
use Rattle.parties_files.proofs.office.Office.replay_file.Goals as goal

pub returns-clause-started : goal.returns-clause-started
returns-clause-started g c =
    let o = c.in_ok-opening.ensures.started in
    let (desks, quorum) = replayed_all o.replayed in
    record {
      up = refl;
      quorum = quorum ∙ c.new-fresh.ensures.quorum;
      frames = o.frames;
      desks = desks ∙ ap (λ (x : rules.Office). office_replays_all x o.frames) c.new-fresh.ensures.desks;
      found = o.found;
      left = o.left;
    }
