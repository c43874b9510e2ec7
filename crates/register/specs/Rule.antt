-- The rule by which a note is read from what the wardens told in one round.
-- Assumes nothing.
use Rattle.std.specs.Prelude.{ℕ, zero, suc, ◌+◌, ◌<◌, ◌≤◌, Bool, true, false, cond, ◌&&◌, nat_le, nat_lt}
use Rattle.register.specs.Count.{count, put}
use Rattle.register.specs.Note.{Note, none, same}

-- heard: who has told; told: what that warden told first
pub record Replies : Type 0 where
  pub heard : ℕ → Bool
  pub told : ℕ → Note

-- nobody has told anything
abbrev pub silence : Replies
silence = record { heard = λ i. false; told = λ i. none }

-- the warden i has told x
abbrev pub reply : ℕ → Note → Replies → Replies
reply i x p = record { heard = put i true p.heard; told = put i x p.told }

-- of n wardens, how many have told, told just this note, told one of a later edition
abbrev pub answers : ℕ → Replies → ℕ
answers n p = count n p.heard

abbrev pub votes : ℕ → Replies → Note → ℕ
votes n p x = count n (λ i. p.heard i && same (p.told i) x)

abbrev pub later : ℕ → Replies → ℕ → ℕ
later n p e = count n (λ i. p.heard i && nat_lt e (p.told i).edition)

-- all but f of n: so many took what was written, or told what they have
abbrev pub quorum : (n f : ℕ) → ℕ → Bool
quorum n f m = nat_le n (m + f)

-- THE RULE: a note is read if more than f told it alike, and no more than f told one of a later edition
pub record IsRead (n f : ℕ) (p : Replies) (x : Note) : Type 0 where
  pub enough : f < votes n p x
  pub last : later n p x.edition ≤ f

-- the same as a test
abbrev pub readable : (n f : ℕ) → Replies → Note → Bool
readable n f p x = nat_lt f (votes n p x) && nat_le (later n p x.edition) f

-- what a round comes to
pub data Reading : Type 0 where
  Found : Note → Reading
  Nothing : Reading

-- the first that is there
abbrev pub or_else : Reading → Reading → Reading
or_else (Found x) y = Found x
or_else Nothing y = y

-- the note of the lowest-numbered among the first m wardens whose note is read
unfoldable pub pick : (n f : ℕ) → Replies → (m : ℕ) → Reading
pick n f p zero = Nothing
pick n f p (suc m) = or_else (pick n f p m) (cond (p.heard m && readable n f p (p.told m)) (Found (p.told m)) Nothing)
