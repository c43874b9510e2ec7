-- What the code's values say, as the definitions of the bytes have it.
-- Assumes nothing.
use Rattle.std.specs.Prelude.{◌≡◌, ℕ, Bool, true, false, Result, MatchResult, ◌≢◌}
use Rattle.protocol.specs.Message as messages
use Rattle.frames.specs.Format as format
use Rattle.frames.specs.declared.role.Role.{Role}
use Rattle.frames.specs.declared.role.Role.TheVariants.{Warden, Office}
use Rattle.frames.specs.declared.kind.Kind.{Kind}
use Rattle.frames.specs.declared.kind.Kind.TheVariants as kinds
use Rattle.frames.specs.declared.kind.UnknownKind.{UnknownKind}
use Rattle.frames.specs.declared.frame.Frame.{Frame}
use Rattle.frames.specs.declared.frame.Frame.TheVariants as frames

-- THE BYTES THAT STAND FOR THE KINDS
abbrev pub number_of : Kind → ℕ
number_of kinds.Take = 1
number_of kinds.Took = 2
number_of kinds.Ask = 3
number_of kinds.Told = 4
number_of kinds.Begun = 5
number_of kinds.Ended = 6

-- the kind that a byte stands for; or an error with that byte, and no kind has it
abbrev pub Decodes : ℕ → Result Kind UnknownKind → Type 0
Decodes byte r = MatchResult r (λ kind. number_of kind ≡ byte) (λ e. (e.0 ≡ byte) × ((kind : Kind) → number_of kind ≢ byte))

-- which kinds may stand on a file
abbrev pub holds : Role → Kind → Bool
holds Warden kinds.Take = true
holds Warden kinds.Took = false
holds Warden kinds.Ask = false
holds Warden kinds.Told = false
holds Warden kinds.Begun = false
holds Warden kinds.Ended = false
holds Office kinds.Take = false
holds Office kinds.Took = false
holds Office kinds.Ask = false
holds Office kinds.Told = false
holds Office kinds.Begun = true
holds Office kinds.Ended = true

abbrev pub kind_of : Frame → Kind
kind_of (frames.Take n e v) = kinds.Take
kind_of (frames.Took n e) = kinds.Took
kind_of (frames.Ask n r) = kinds.Ask
kind_of (frames.Told n r e v) = kinds.Told
kind_of (frames.Begun n e v) = kinds.Begun
kind_of (frames.Ended n e) = kinds.Ended

abbrev pub frame_of : Frame → format.Frame
frame_of (frames.Take n e v) = format.Sent n.0 (messages.Take (record { edition = e.0; value = v.now }))
frame_of (frames.Took n e) = format.Sent n.0 (messages.Took e.0)
frame_of (frames.Ask n r) = format.Sent n.0 (messages.Ask r.0)
frame_of (frames.Told n r e v) = format.Sent n.0 (messages.Told r.0 (record { edition = e.0; value = v.now }))
frame_of (frames.Begun n e v) = format.Begun n.0 (record { edition = e.0; value = v.now })
frame_of (frames.Ended n e) = format.Ended n.0 e.0
