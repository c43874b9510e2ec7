-- One record more at the front of bytes.
-- Assumes nothing.
use Rattle.std.proofs.Common.{◌≡◌, ℕ, List, [], ◌∷◌, ◌++◌, refl}
use Rattle.frames.specs.Format.{Frame, encode}
use Rattle.frames.specs.Journal.{encode_all, IsRecord, Records}
use Rattle.frames.specs.declared.role.Role.{Role}
use Rattle.frames.proofs.Records.{records_push, bytes_push}
use Rattle.journal.specs.Replays.{Replayed, none, more}

-- bs are records, by which x has become y, and then the rest
pub record Passed {X : Type 0} (R : X → Frame → X → Type 0) (role : Role) (bs rest : List ℕ) (x y : X) : Type 0 where
  pub frames : List Frame
  pub replayed : Replayed R x frames y
  pub records : Records role frames
  pub front : bs ≡ encode_all frames ++ rest

module _ {X : Type 0} (R : X → Frame → X → Type 0) (role : Role) (bs : List ℕ) where
  pub begin : (x : X) → Passed R role bs bs x x
  begin x = record { frames = []; replayed = none; records = tt; front = refl }

  pub onward : (rest more_rest : List ℕ) (x y z : X) → Passed R role bs rest x y → (f : Frame) → IsRecord role f → rest ≡ encode f ++ more_rest → R y f z → Passed R role bs more_rest x z
  onward rest more_rest x y z p f is next step =
      record {
        frames = p.frames ++ (f ∷ []);
        replayed = more p.replayed f step;
        records = records_push role p.frames f p.records is;
        front = bytes_push p.frames f more_rest p.front next;
      }
