-- What a party has of each note, in a table that is bounded.
-- Assumes nothing.
use Rattle.std.specs.Prelude.{ℕ, suc, Bool, true, false, cond, ◌||◌, nat_lt}
use Rattle.register.specs.Count.{put}

-- of how many notes a party has something, at most
abbrev pub most : ℕ
most = 4096

-- at: what it has of each note; had: of which notes it has something; many: how many those are
pub record Keep (A : Type 0) : Type 0 where
  pub at : ℕ → A
  pub had : ℕ → Bool
  pub many : ℕ

-- it has nothing; blank: what stands where nothing is had
abbrev pub empty : {A : Type 0} → (blank : A) → Keep A
empty blank = record { at = λ k. blank; had = λ k. false; many = 0 }

-- there is room for something of the note k
abbrev pub room : {A : Type 0} → (k : ℕ) → Keep A → Bool
room k d = d.had k || nat_lt d.many most

-- it has a of the note k from now on
abbrev pub store : {A : Type 0} → (k : ℕ) → A → Keep A → Keep A
store k a d = record { at = put k a d.at; had = put k true d.had; many = cond (d.had k) d.many (suc d.many) }
