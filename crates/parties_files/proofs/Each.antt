-- A message to each warden.
-- Assumes nothing.
use Rattle.std.proofs.Common.{◌≡◌, ℕ, zero, suc, ◌+◌, ◌≤◌, [], ◌∷◌, ◌++◌, length, take, refl, ap, ◌∙◌, subst, ⊎_elim, add-one, arith, length-append}
use Rattle.std.proofs.lemmas.Bool.{cases_eq}
use Rattle.std.proofs.lemmas.List.{map-append, take_all, take-append-le}
use Rattle.protocol.specs.Message.{office, Message, Packet, to_each}
use Rattle.storage.specs.Changes.{Parcel}
use Rattle.parties_files.specs.Commits.{parcel, each}

module _ (k : ℕ) (m : Message) where
  abbrev to : ℕ → Parcel
  to i = record { to = i; note = k; message = m }

  abbrev sent : ℕ → Packet
  sent i = record { from = office; to = i; note = k; message = m }

  pub each_none : each 0 k m ≡ []
  unfolding to_each
  each_none = refl

  each_suc : (n : ℕ) → each (suc n) k m ≡ each n k m ++ (to n ∷ [])
  unfolding to_each
  each_suc n = map-append parcel (to_each n sent) (sent n ∷ [])

  pub each_more : (n : ℕ) → each (n + 1) k m ≡ each n k m ++ (to n ∷ [])
  each_more n = ap (λ (x : ℕ). each x k m) (add-one n) ∙ each_suc n

  length_each : (n : ℕ) → length (each n k m) ≡ n
  length_each zero = ap length each_none
  length_each (suc n) = ap length (each_suc n) ∙ (let a = length-append (each n k m) (to n ∷ []) in let l = length_each n in omega arith)

  all_of : (n i : ℕ) → i ≡ n → take i (each n k m) ≡ each i k m
  all_of n i same = subst (λ (x : ℕ). take i (each x k m) ≡ each i k m) same (take_all i (each i k m) (omega (arith, length_each i)))

  -- to the first of them
  pub each_front : (n i : ℕ) → i ≤ n → take i (each n k m) ≡ each i k m
  each_front zero i le = all_of zero i (omega arith)
  each_front (suc n) i le =
      ⊎_elim (all_of (suc n) i)
      (λ apart. let less : i ≤ n = omega arith in ap (take i) (each_suc n) ∙ take-append-le i (each n k m) (to n ∷ []) (omega (arith, length_each n)) ∙ each_front n i less)
      (cases_eq i (suc n))
