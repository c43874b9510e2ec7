-- A writing and a round go forward, and come to an end by the honest alone.
-- Assumes nothing.
use Rattle.std.specs.Prelude.{◌≡◌, ℕ, ◌+◌, ◌<◌, ◌≤◌, Bool, true, false, not, ◌||◌, ◌⊎◌}
use Rattle.register.specs.Count.{count}
use Rattle.register.specs.Note.{Note}
use Rattle.register.specs.Rule.{answers}
use Rattle.register.specs.Model.{Writing, acked, hearing, World, Step, begins, stores, hears, ends, opens, tells, listens, loses, Reach}

-- how many honest wardens are not among the known
abbrev pub missing : ℕ → (liar known : ℕ → Bool) → ℕ
missing n liar known = count n (λ i. not (liar i || known i))

-- how far a writing or a round has come, and that nothing but a new one takes it back
pub record Moves (n f : ℕ) (liar : ℕ → Bool) (w : World) : Type 0 where
  -- while a writing is under way, a warden has had the edition, and can say so, or it can take it
  pub takes : (i : ℕ) → Writing w.office → (w.office.edition ≤ (w.warden i).high) ⊎ ((w.warden i).store.edition < w.office.edition)
  -- once no honest warden is missing the writing can end
  pub ends : count n liar ≤ f → missing n liar w.office.acks ≡ 0 → n ≤ count n w.office.acks + f
  -- and a round has heard enough
  pub answered : count n liar ≤ f → (r : ℕ) → missing n liar (w.round r).replies.heard ≡ 0 → n ≤ answers n (w.round r).replies + f
  -- no more are missing after any step, a liar's too, as long as it is the same writing, or the same round
  pub acks_stay : (v : World) → Step n f liar w v → v.office.edition ≡ w.office.edition → missing n liar v.office.acks ≤ missing n liar w.office.acks
  pub heard_stay : (v : World) → Step n f liar w v → (r : ℕ) → (w.round r).live ≡ true → missing n liar (v.round r).replies.heard ≤ missing n liar (w.round r).replies.heard
  -- and fewer when an honest warden is heard for the first time
  pub acks_fall : (i : ℕ) → i < n → liar i ≡ false → w.office.acks i ≡ false → missing n liar (acked i w.office).acks < missing n liar w.office.acks
  pub heard_fall : (r i : ℕ) (x : Note) → i < n → liar i ≡ false → (w.round r).replies.heard i ≡ false → missing n liar (hearing i x (w.round r)).replies.heard < missing n liar (w.round r).replies.heard

abbrev pub Moving : Type 0
Moving = (n f : ℕ) (liar : ℕ → Bool) (w : World) → Reach n f liar w → Moves n f liar w

-- a step in which no liar has a part and nothing is lost
abbrev pub fair : {n f : ℕ} {liar : ℕ → Bool} {w v : World} → Step n f liar w v → Bool
fair (begins v done) = true
fair {liar = liar} (stores i e begun late) = not (liar i)
fair {liar = liar} (hears i l writing taken) = not (liar i)
fair (ends writing enough) = true
fair (opens r shut) = true
fair (tells r i honest live) = true
fair {liar = liar} (listens r i x l live first from) = not (liar i)
fair (loses i) = false

-- from one world to another by such steps
pub data Way (n f : ℕ) (liar : ℕ → Bool) : World → World → Type 0 where
  here : {w : World} → Way n f liar w w
  next : {w v u : World} (s : Step n f liar w v) → fair s ≡ true → Way n f liar v u → Way n f liar w u

-- THE SECOND PROMISE: with no more liars than f, a writing and a round come to an end by the honest alone
abbrev pub Finishes : Type 0
Finishes =
    (n f : ℕ) (liar : ℕ → Bool) → count n liar ≤ f → (w : World) → Reach n f liar w →
    (Writing w.office → (v : World) × Way n f liar w v × (v.office.edition ≡ w.office.edition) × (v.office.ended ≡ w.office.edition)) ×
    ((r : ℕ) → (w.round r).live ≡ true → (v : World) × Way n f liar w v × ((v.round r).since ≡ (w.round r).since) × ((v.round r).lapsed ≡ (w.round r).lapsed) × (n ≤ answers n (v.round r).replies + f))
