-- What is promised to who reads. Each is a type; a proof of the type is the theorem.
-- Assumes nothing.
use Rattle.std.specs.Prelude.{◌≡◌, ℕ, ◌+◌, ◌*◌, ◌<◌, ◌≤◌, Bool, true, ◌||◌, ◌⊎◌, nat_le}
use Rattle.register.specs.Count.{count}
use Rattle.register.specs.Note.{Note, none}
use Rattle.register.specs.Rule.{Replies, answers, IsRead, Found, Nothing, pick}
use Rattle.register.specs.Model.{Office, note, Round, World, Reach}

-- THE COUNTING LEMMA, with its four numbers apart: of n wardens at least h were heard, all but f hold something, and no more than b are faulty.
-- A test that everybody passes who was heard, holds it and is not faulty, is passed by all of the h but f + b.
abbrev pub Overlap : Type 0
Overlap =
    (n h b f : ℕ) (heard holds faulty test : ℕ → Bool) →
    h ≤ count n heard → n ≤ count n holds + f → count n faulty ≤ b →
    ((i : ℕ) → i < n → heard i ≡ true → holds i ≡ true → (faulty i ≡ true) ⊎ (test i ≡ true)) →
    h ≤ count n test + (f + b)

-- how many lie, or were behind at some moment of the round
abbrev pub faults : (n : ℕ) (liar : ℕ → Bool) → Round → ℕ
faults n liar r = count n (λ i. liar i || r.lapsed i)

-- all wardens but f, liars counted in, had once had the edition e when the round began
abbrev pub Settled : (n f : ℕ) (liar : ℕ → Bool) → Round → ℕ → Type 0
Settled n f liar r e = n ≤ count n (λ i. liar i || nat_le e (r.tops i)) + f

-- so many were heard that more than f of them had had what all but f had, and are not faulty
abbrev pub Heard : (n f : ℕ) (liar : ℕ → Bool) → Round → Type 0
Heard n f liar r = 2 * f + faults n liar r < answers n r.replies

-- what holds of the notes that a round comes to
pub record Stands (n f : ℕ) (liar : ℕ → Bool) (o : Office) (r : Round) : Type 0 where
  -- what is read was written, if no more than f lie: a note that nobody wrote is never read
  pub written : count n liar ≤ f → (x : Note) → IsRead n f r.replies x → (x ≡ none) ⊎ ((1 ≤ x.edition) × (x.edition ≤ o.edition) × (x.value ≡ o.value x.edition))
  -- and it is never two
  pub unique : count n liar ≤ f → (x y : Note) → IsRead n f r.replies x → IsRead n f r.replies y → x ≡ y
  -- it is no older than any edition that all but f had had when the round began
  pub fresh : Heard n f liar r → (x : Note) → IsRead n f r.replies x → (e : ℕ) → Settled n f liar r e → e ≤ x.edition
  -- of which the last that had ended is one
  pub ended : Settled n f liar r r.since
  -- where no writing has been under way since, the note that had ended last is read
  pub sure : Heard n f liar r → faults n liar r ≤ f → o.edition ≡ r.since → IsRead n f r.replies (note o r.since)

-- of every round of every world that can be reached, whatever the numbers are
abbrev pub Stand : Type 0
Stand = (n f : ℕ) (liar : ℕ → Bool) (w : World) → Reach n f liar w → (r : ℕ) → Stands n f liar w.office (w.round r)

-- a round that has heard all wardens but f, and in which no more than f lie or were ever behind
pub record Full (n f : ℕ) (liar : ℕ → Bool) (r : Round) : Type 0 where
  pub enough : n ≤ answers n r.replies + f
  pub few : faults n liar r ≤ f

-- THE MAIN PROMISE: with fewer faults than a fourth of the wardens, what a full round comes to is written, the only one, and no older than what had ended when
-- it began; and where no writing has been under way since, it is that very note
pub record Reads (n f : ℕ) (o : Office) (r : Round) : Type 0 where
  pub written : (x : Note) → IsRead n f r.replies x → (x ≡ none) ⊎ ((1 ≤ x.edition) × (x.edition ≤ o.edition) × (x.value ≡ o.value x.edition))
  pub unique : (x y : Note) → IsRead n f r.replies x → IsRead n f r.replies y → x ≡ y
  pub fresh : (x : Note) → IsRead n f r.replies x → r.since ≤ x.edition
  pub sure : o.edition ≡ r.since → IsRead n f r.replies (note o r.since)

abbrev pub Read : Type 0
Read = (n f : ℕ) (liar : ℕ → Bool) → 4 * f < n → (w : World) → Reach n f liar w → (r : ℕ) → Full n f liar (w.round r) → Reads n f w.office (w.round r)

-- the rule as it is computed finds a note that is read, and finds nothing only where none is
pub record Picks (n f : ℕ) (p : Replies) : Type 0 where
  pub found : (x : Note) → pick n f p n ≡ Found x → IsRead n f p x
  pub nothing : pick n f p n ≡ Nothing → (x : Note) → IsRead n f p x → ⊥

abbrev pub Picked : Type 0
Picked = (n f : ℕ) (p : Replies) → Picks n f p
