-- What no step takes back.
-- Assumes nothing.
use Rattle.std.proofs.Common.{◌≡◌, ℕ, ◌≤◌, Bool, true, ◌∷◌, refl, arith}
use mathlib.Core.List.{Memᴰ}
use Rattle.register.specs.Note.{Note}
use Rattle.register.specs.Model.{Office, note, begun, Warden, stored, emptied, Round, opened, offering, hearing, World, new_round, Step, begins, stores, hears, ends, opens, tells, listens, loses}
use Rattle.register.proofs.Put.{put_all}

-- of the office and the wardens
pub record Grows (o o' : Office) (d d' : ℕ → Warden) : Type 0 where
  pub edition : o.edition ≤ o'.edition
  pub value : (e : ℕ) → e ≤ o.edition → o.value e ≡ o'.value e
  pub ended : o.ended ≤ o'.ended
  pub high : (i : ℕ) → (d i).high ≤ (d' i).high

-- of a round that has begun
pub record GrowsRound (c c' : Round) : Type 0 where
  pub live : c'.live ≡ true
  pub since : c'.since ≡ c.since
  pub offered : (i : ℕ) (x : Note) → Memᴰ x (c.offered i) → Memᴰ x (c'.offered i)
  pub heard : (i : ℕ) → c.replies.heard i ≡ true → c'.replies.heard i ≡ true

still : {o : Office} {d : ℕ → Warden} → Grows o o d d
still = record { edition = omega arith; value = λ _ _. refl; ended = omega arith; high = λ i. omega arith }

round_still : {c : Round} → c.live ≡ true → GrowsRound c c
round_still live = record { live = live; since = refl; offered = λ i x m. m; heard = λ i e. e }

offering_grows : (i : ℕ) (x : Note) (c : Round) → c.live ≡ true → GrowsRound c (offering i x c)
offering_grows i x c live =
    record { live = live; since = refl; offered = put_all (λ j xs. (y : Note) → Memᴰ y (c.offered j) → Memᴰ y xs) i (x ∷ c.offered i) c.offered (λ y m. Memᴰ.tail m) (λ j y m. m); heard = λ j e. e }

hearing_grows : (i : ℕ) (x : Note) (c : Round) → c.live ≡ true → GrowsRound c (hearing i x c)
hearing_grows i x c live = record { live = live; since = refl; offered = λ j y m. m; heard = λ j e. grind arith }

one_round : (w : World) (q : ℕ) (c : Round) → ((w.round q).live ≡ true → GrowsRound (w.round q) c) → (r : ℕ) → (w.round r).live ≡ true → GrowsRound (w.round r) ((new_round q c w).round r)
one_round w q c here = put_all (λ r c. (w.round r).live ≡ true → GrowsRound (w.round r) c) q c w.round here (λ r live. round_still live)

module _ {n f : ℕ} {liar : ℕ → Bool} where
  pub step_grows : {w v : World} → Step n f liar w v → Grows w.office v.office w.warden v.warden
  step_grows {w} (begins v done) = record { edition = omega arith; value = λ e l. grind arith; ended = omega arith; high = λ i. omega arith }
  step_grows {w} (stores i e begun late) =
      record { edition = omega arith; value = λ _ _. refl; ended = omega arith; high = put_all (λ j c. (w.warden j).high ≤ c.high) i (stored (note w.office e) (w.warden i)) w.warden (omega arith) (λ j. omega arith) }
  step_grows {w} (hears i l writing taken) = record { edition = omega arith; value = λ _ _. refl; ended = omega arith; high = λ i. omega arith }
  step_grows {w} (ends writing enough) = record { edition = omega arith; value = λ _ _. refl; ended = omega arith; high = λ i. omega arith }
  step_grows (opens r shut) = still
  step_grows (tells r i honest live) = still
  step_grows (listens r i x l live first from) = still
  step_grows {w} (loses i) =
      record { edition = omega arith; value = λ _ _. refl; ended = omega arith; high = put_all (λ j c. (w.warden j).high ≤ c.high) i (emptied (w.warden i)) w.warden (omega arith) (λ j. omega arith) }

  pub step_grows_round : {w v : World} → Step n f liar w v → (r : ℕ) → (w.round r).live ≡ true → GrowsRound (w.round r) (v.round r)
  step_grows_round (begins v done) r live = round_still live
  step_grows_round (stores i e begun late) r live = round_still live
  step_grows_round (hears i l writing taken) r live = round_still live
  step_grows_round (ends writing enough) r live = round_still live
  step_grows_round {w} (opens q shut) r live = one_round w q (opened w.office w.warden) (λ on. cc) r live
  step_grows_round {w} (tells q i honest on) r live = one_round w q (offering i (w.warden i).store (w.round q)) (offering_grows i (w.warden i).store (w.round q)) r live
  step_grows_round {w} (listens q i x l on first from) r live = one_round w q (hearing i x (w.round q)) (hearing_grows i x (w.round q)) r live
  step_grows_round (loses i) r live = record { live = live; since = refl; offered = λ i x m. m; heard = λ i e. e }
