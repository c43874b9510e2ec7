-- What a warden at a place does is done at that place.
-- Assumes nothing.
use Rattle.std.proofs.Common.{◌≡◌, ℕ, ◌<◌, List, length, get_or, set, ap, ◌∙◌}
use Rattle.register.specs.Count.{put}
use Rattle.register.specs.Note.{Note, none}
use Rattle.protocol.specs.Message.{Message, Sends}
use Rattle.protocol.specs.Step.{Outcome}
use Rattle.protocol.specs.Warden.{WardenDone}
use Rattle.protocol_tables.specs.Keep.{Keep, empty}
use Rattle.protocol_tables.specs.Warden.{warden_keeps}
use Rattle.parties.specs.Views.{Did}
use Rattle.parties_tables.specs.Wardens.{notes_of}
use Rattle.parties_tables.specs.declared.warden.Warden.{Warden}
use Rattle.rehearsal.specs.Casts.{keeps_of, HeardBy}
use Rattle.rehearsal.proofs.Places.{set_put, read_place}

pub heard_by : (ws : List Warden) (i from k : ℕ) (m : Message) (v w : Warden) (sends : Sends) (outcome : Outcome WardenDone) → i < length ws → v ≡ get_or ws i v → Did (notes_of w) sends outcome (warden_keeps (notes_of v) from k m) → HeardBy i from k m (keeps_of ws) (keeps_of (set ws i w)) sends outcome
heard_by ws i from k m v w sends outcome inside at did =
    let here : notes_of v ≡ keeps_of ws i = read_place notes_of ws i v (empty none) inside at in
    record {
      keeps_are = set_put notes_of ws i w (empty none) inside ∙ ap (λ (d : Keep Note). put i d (keeps_of ws)) (did.next_is ∙ ap (λ (d : Keep Note). (warden_keeps d from k m).next) here);
      sends_is = did.sends_is ∙ ap (λ (d : Keep Note). (warden_keeps d from k m).sends) here;
      outcome_is = did.outcome_is ∙ ap (λ (d : Keep Note). (warden_keeps d from k m).outcome) here;
    }
