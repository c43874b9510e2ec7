use Rattle.std.proofs.Common.{refl, ap, ◌∙◌}
use Rattle.register.specs.Note.{Note}
use Rattle.protocol_tables.specs.Keep.{Keep}
use Rattle.protocol_files.specs.Records.{warden_replays_all}
use Rattle.parties_files.proofs.WardenReplays.{replayed_all}
use Rattle.parties_files.proofs.warden.Warden.replay_file.Goals as goal

pub returns-clause-started : goal.returns-clause-started
returns-clause-started g c =
    let o = c.in_ok-opening.ensures.started in
    let (notes, outbox) = replayed_all o.replayed in
    record {
      up = refl;
      outbox = outbox ∙ c.new-fresh.ensures.outbox;
      frames = o.frames;
      kept = notes ∙ ap (λ (d : Keep Note). warden_replays_all d o.frames) c.new-fresh.ensures.kept;
      found = o.found;
      left = o.left;
    }
