-- A frame at the front of bytes, and what follows it.
-- Assumes nothing.
use denote.Bor.{Bor}
use Rattle.std.specs.Prelude.{◌≡◌, ℕ, ◌-◌, ◌<◌, ◌≤◌, Bool, true, cond, ◌&&◌, List, ◌∷◌, ◌++◌, length, ◌≢◌, nat_le, nat_lt, slice_index}
use Rattle.frames.specs.Format.{Frame, be, kind, about, number, valued, tail, encode, Fits}
use Rattle.frames.specs.Journal.{IsRecord}
use Rattle.frames.specs.Views.{frame_of}
use Rattle.frames.specs.declared.decode.Front.{Front}
use Rattle.frames.specs.declared.frame.Frame as read
use Rattle.frames.specs.declared.kind.Kind.{Kind}
use Rattle.frames.specs.declared.kind.Kind.TheVariants as kinds
use Rattle.frames.specs.declared.role.Role.{Role}

-- a kind, two numbers, and what follows
abbrev pub framed : (k n m : ℕ) → List ℕ → List ℕ
framed k n m rest = k ∷ (be 4 n ++ (be 8 m ++ rest))

-- bs begins with the frame that was read, and goes on with the rest
pub record Begins (bs : List ℕ) (x : Front) : Type 0 where
  pub fits : Fits (frame_of x.frame)
  pub front : bs ≡ encode (frame_of x.frame) ++ x.rest.now
  pub shorter : length x.rest.now < length bs

-- no frame stands at the front
abbrev pub NoFrame : List ℕ → Type 0
NoFrame bs = (f : Frame) (more : List ℕ) → Fits f → bs ≢ encode f ++ more

-- bs begins with the record that was read, and goes on with the rest
pub record BeginsRecord (role : Role) (bs : List ℕ) (x : Front) : Type 0 where
  pub is_record : IsRecord role (frame_of x.frame)
  pub front : bs ≡ encode (frame_of x.frame) ++ x.rest.now
  pub shorter : length x.rest.now < length bs

-- bs is what stands in a frame behind its kind and its two numbers, and then the rest
pub record GoesOn (k n m : ℕ) (bs : List ℕ) (x : Front) : Type 0 where
  pub kinds : kind (frame_of x.frame) ≡ k
  pub abouts : about (frame_of x.frame) ≡ n
  pub numbers : number (frame_of x.frame) ≡ m
  pub fits : Fits (frame_of x.frame)
  pub tails : bs ≡ tail (frame_of x.frame) ++ x.rest.now

-- no frame of the kind goes on so
abbrev pub NoTail : ℕ → List ℕ → Type 0
NoTail k bs = (f : Frame) (more : List ℕ) → Fits f → kind f ≡ k → bs ≢ tail f ++ more

-- no value stands at the front
abbrev pub NoValue : List ℕ → Type 0
NoValue bs = (v more : List ℕ) → length v ≤ 64 → bs ≢ valued v ++ more

-- bs begins with the value of which the frame was made, and goes on with the rest
pub record EndsWith (made : Bor (List ℕ) → read.Frame → Type 0) (bs : List ℕ) (x : Front) : Type 0 where
  pub value : Bor (List ℕ)
  pub is_made : made value x.frame
  pub front : bs ≡ valued value.now ++ x.rest.now
  pub short : length value.now ≤ 64

-- behind twelve bytes a value and its length end before they should
abbrev pub value_early : List ℕ → Bool
value_early body = cond (nat_le (length body) 12) true (nat_le (slice_index body 12) 64 && nat_le (length body - 12) (slice_index body 12))

-- what stands behind the kind of a record ends before the record does
abbrev pub ends_early_lem : Kind → List ℕ → Bool
ends_early_lem kinds.Take body = value_early body
ends_early_lem kinds.Took body = value_early body
ends_early_lem kinds.Ask body = value_early body
ends_early_lem kinds.Told body = value_early body
ends_early_lem kinds.Begun body = value_early body
ends_early_lem kinds.Ended body = nat_lt (length body) 12
