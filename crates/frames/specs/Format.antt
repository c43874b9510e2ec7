-- The bytes of messages and of records.
-- Assumes nothing.
use Rattle.std.specs.Prelude.{◌≡◌, ℕ, zero, suc, ◌/◌, ◌%◌, ◌^◌, ◌<◌, ◌≤◌, List, [], ◌∷◌, ◌++◌, length}
use Rattle.register.specs.Note.{Note}
use Rattle.protocol.specs.Message.{Message, Take, Took, Ask, Told}

-- what stands in bytes: a message about a note; or, on the office's file, that it has begun an edition, or that its writing has come to an end
pub data Frame : Type 0 where
  Sent : (note : ℕ) → Message → Frame
  Begun : (note : ℕ) → Note → Frame
  Ended : (note edition : ℕ) → Frame

-- n in k bytes, the high byte first
unfoldable pub be : (k n : ℕ) → List ℕ
be zero n = []
be (suc k) n = be k (n / 256) ++ ((n % 256) ∷ [])

-- THE PARTS OF A FRAME, in their order: kind (1 byte), the number of the note (4), an edition or a round (8), and what follows
abbrev pub kind : Frame → ℕ
kind (Sent k (Take x)) = 1
kind (Sent k (Took e)) = 2
kind (Sent k (Ask r)) = 3
kind (Sent k (Told r x)) = 4
kind (Begun k x) = 5
kind (Ended k e) = 6

abbrev pub about : Frame → ℕ
about (Sent k m) = k
about (Begun k x) = k
about (Ended k e) = k

abbrev pub number : Frame → ℕ
number (Sent k (Take x)) = x.edition
number (Sent k (Took e)) = e
number (Sent k (Ask r)) = r
number (Sent k (Told r x)) = r
number (Begun k x) = x.edition
number (Ended k e) = e

-- a value behind its length (1 byte)
abbrev pub valued : List ℕ → List ℕ
valued v = length v ∷ v

abbrev pub tail : Frame → List ℕ
tail (Sent k (Take x)) = valued x.value
tail (Sent k (Took e)) = []
tail (Sent k (Ask r)) = []
tail (Sent k (Told r x)) = be 8 x.edition ++ valued x.value
tail (Begun k x) = valued x.value
tail (Ended k e) = []

unfoldable pub encode : Frame → List ℕ
encode f = kind f ∷ (be 4 (about f) ++ (be 8 (number f) ++ tail f))

-- its numbers have room, and its value is short enough
abbrev pub FitsNote : Note → Type 0
FitsNote x = (x.edition < 2 ^ 64) × (length x.value ≤ 64)

abbrev pub Fits : Frame → Type 0
Fits (Sent k (Take x)) = (k < 2 ^ 32) × FitsNote x
Fits (Sent k (Took e)) = (k < 2 ^ 32) × (e < 2 ^ 64)
Fits (Sent k (Ask r)) = (k < 2 ^ 32) × (r < 2 ^ 64)
Fits (Sent k (Told r x)) = (k < 2 ^ 32) × (r < 2 ^ 64) × FitsNote x
Fits (Begun k x) = (k < 2 ^ 32) × FitsNote x
Fits (Ended k e) = (k < 2 ^ 32) × (e < 2 ^ 64)

-- THE LAW: bytes begin with one frame at most, so a frame is known from its bytes, and no strict front of one is another
abbrev pub Unique : Type 0
Unique = (f g : Frame) (xs ys : List ℕ) → Fits f → Fits g → encode f ++ xs ≡ encode g ++ ys → (f ≡ g) × (xs ≡ ys)

-- no frame is longer than this
abbrev pub longest : ℕ
longest = 86
