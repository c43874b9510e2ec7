-- Files of records: one after the other, and at the end perhaps a part of one more.
-- Assumes nothing.
use Rattle.std.specs.Prelude.{◌≡◌, ℕ, ◌<◌, Bool, true, false, ◌⊎◌, List, [], ◌∷◌, ◌++◌, length, take, ◌≢◌}
use Rattle.protocol.specs.Message.{Take, Took, Ask, Told}
use Rattle.frames.specs.Format.{Frame, Sent, Begun, Ended, Fits, encode}
use Rattle.frames.specs.declared.role.Role.{Role}
use Rattle.frames.specs.declared.role.Role.TheVariants.{Warden, Office}

-- WHAT MAY STAND ON A FILE: on a warden's what it took, as the message that it came in; on the office's what began and what came to an end
abbrev pub allowed : Role → Frame → Bool
allowed Warden (Sent k (Take x)) = true
allowed Warden (Sent k (Took e)) = false
allowed Warden (Sent k (Ask r)) = false
allowed Warden (Sent k (Told r x)) = false
allowed Warden (Begun k x) = false
allowed Warden (Ended k e) = false
allowed Office (Sent k m) = false
allowed Office (Begun k x) = true
allowed Office (Ended k e) = true

abbrev pub IsRecord : Role → Frame → Type 0
IsRecord r f = Fits f × (allowed r f ≡ true)

abbrev pub Records : Role → List Frame → Type 0
Records r [] = Unit {0}
Records r (f ∷ fs) = IsRecord r f × Records r fs

abbrev pub encode_all : List Frame → List ℕ
encode_all [] = []
encode_all (f ∷ fs) = encode f ++ encode_all fs

-- no whole record stands at the front
abbrev pub NoRecord : Role → List ℕ → Type 0
NoRecord r bs = (f : Frame) (more : List ℕ) → IsRecord r f → bs ≢ encode f ++ more

-- the first bytes of a record, and not all of them
abbrev pub StrictFront : Role → List ℕ → Type 0
StrictFront r bs = (f : Frame) × (k : ℕ) × IsRecord r f × (k < length (encode f)) × (bs ≡ take k (encode f))

-- bs is the records fs, and then no whole record
pub record Splits (r : Role) (bs : List ℕ) (fs : List Frame) (rest : List ℕ) : Type 0 where
  pub whole : bs ≡ encode_all fs ++ rest
  pub records : Records r fs
  pub ends : NoRecord r rest

-- THE LAWS
pub record Laws : Type 0 where
  -- bytes split in one way only
  pub once : (r : Role) (bs : List ℕ) (fs gs : List Frame) (xs ys : List ℕ) → Splits r bs fs xs → Splits r bs gs ys → (fs ≡ gs) × (xs ≡ ys)
  -- of records that are cut off anywhere some first ones are left, and then nothing or a strict front of the next
  pub cut : (r : Role) (fs : List Frame) (k : ℕ) → Records r fs → (m : ℕ) × (rest : List ℕ) × Splits r (take k (encode_all fs)) (take m fs) rest × ((rest ≡ []) ⊎ StrictFront r rest)
