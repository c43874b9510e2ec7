-- The writings under way are those of the notes that are being written.
-- Assumes nothing.
use Rattle.std.proofs.Common.{◌≡◌, ℕ, true, false, eqb, List, [], ◌∷◌, ◌++◌, sym, refl, ◌∙◌, ⊎_elim, arith}
use mathlib.Core.List.Memᴰ
use mathlib.Core.List.{Memᴰ}
use Rattle.std.proofs.lemmas.Bool.{cond_both, eqb-true}
use Rattle.register.proofs.Put.{put_at, put_all}
use Rattle.protocol.specs.Message.{Message}
use Rattle.protocol.specs.Step.{Step}
use Rattle.protocol.specs.Office.{OfficeDone, Desk, begin_writing, acknowledge, close}
use Rattle.protocol.proofs.PartyCases.{OfficeCase, took_counts, took_ends, office_passes, office_case}
use Rattle.protocol_tables.specs.Keep.{store}
use Rattle.protocol_tables.specs.Office.{Office, OfficeStep, empty_office, without, office_writes, keep_counting, office_hears}
use Rattle.protocol_tables.proofs.TableCases.{Written, begins_it, refuses, written}

pub record Ordered (o : Office) : Type 0 where
  pub busy : (k : ℕ) → Memᴰ k o.under_way → (o.desks.at k).busy ≡ true
  pub listed : (k : ℕ) → (o.desks.at k).busy ≡ true → Memᴰ k o.under_way

not_in_without : (k x : ℕ) (xs : List ℕ) → Memᴰ x (without k xs) → (x ≡ k → ⊥) × Memᴰ x xs
not_in_without k x [] = λ m. absurd (Memᴰ.not-nil m)
not_in_without k x (y ∷ xs) =
    cond_both (eqb k y) (without k xs) (y ∷ without k xs) (λ l. Memᴰ x l → (x ≡ k → ⊥) × Memᴰ x (y ∷ xs))
    (λ _ m. let (apart, at) = not_in_without k x xs m in (apart, Memᴰ.tail at))
    (λ other m. ⊎_elim (λ (is : x ≡ y). (λ (same : x ≡ k). grind arith, Memᴰ.head is)) (λ m. let (apart, at) = not_in_without k x xs m in (apart, Memᴰ.tail at)) (Memᴰ.cases_cons m))

pub in_without : (k x : ℕ) (xs : List ℕ) → (x ≡ k → ⊥) → Memᴰ x xs → Memᴰ x (without k xs)
in_without k x [] apart m = m
in_without k x (y ∷ xs) apart m =
    cond_both (eqb k y) (without k xs) (y ∷ without k xs) (Memᴰ x)
    (λ same. ⊎_elim (λ (is : x ≡ y). absurd (apart (is ∙ sym (eqb-true k y same)))) (in_without k x xs apart) (Memᴰ.cases_cons m))
    (λ _. ⊎_elim (λ is. Memᴰ.head is) (λ m. Memᴰ.tail (in_without k x xs apart m)) (Memᴰ.cases_cons m))

module _ {o : Office} (h : Ordered o) (k : ℕ) (d : Desk) where
  abbrev On : Desk → Type 0
  On c = c.busy ≡ true

  -- it is being written from now on
  begun_ordered : d.busy ≡ true → Ordered (record { desks = store k d o.desks; under_way = o.under_way ++ (k ∷ []) })
  begun_ordered busy =
      record {
        busy = λ x m. put_at On x k d o.desks.at (λ _. busy) (λ apart. ⊎_elim (h.busy x) (λ m. absurd (apart (Memᴰ.eq_of_singleton m))) (Memᴰ.append_cases o.under_way m));
        listed = put_all (λ x c. On c → Memᴰ x (o.under_way ++ (k ∷ []))) k d o.desks.at (λ _. Memᴰ.append_right o.under_way (Memᴰ.head refl)) (λ x on. Memᴰ.append_left (k ∷ []) (h.listed x on));
      }

  -- it is still being written
  counted_ordered : (o.desks.at k).busy ≡ true → d.busy ≡ true → Ordered (record { desks = store k d o.desks; under_way = o.under_way })
  counted_ordered was busy =
      record {
        busy = put_all (λ x c. Memᴰ x o.under_way → On c) k d o.desks.at (λ _. busy) h.busy;
        listed = put_all (λ x c. On c → Memᴰ x o.under_way) k d o.desks.at (λ _. h.listed k was) h.listed;
      }

  -- it is no longer being written
  pub ended_ordered : d.busy ≡ false → Ordered (record { desks = store k d o.desks; under_way = without k o.under_way })
  ended_ordered idle =
      record {
        busy = λ x m. let (apart, at) = not_in_without k x o.under_way m in put_at On x k d o.desks.at (λ same. absurd (apart same)) (λ _. h.busy x at);
        listed = λ x. put_at (λ c. On c → Memᴰ x (without k o.under_way)) x k d o.desks.at (λ _ on. cc) (λ apart on. in_without k x o.under_way apart (h.listed x on));
      }

pub empty_ordered : Ordered empty_office
empty_ordered = record { busy = λ k m. absurd (Memᴰ.not-nil m); listed = λ k e. cc }

-- a writing that began, with its letter
abbrev pub started : Office → (k : ℕ) → List ℕ → OfficeStep
started o k v =
    let s : Step Desk OfficeDone = begin_writing (o.desks.at k) v in
    record { next = record { desks = store k s.next o.desks; under_way = o.under_way ++ (k ∷ []) }; letters = record { note = k; sends = s.sends } ∷ []; outcome = s.outcome }

module _ (o : Office) (h : Ordered o) (k : ℕ) where
  pub write_ordered : (v : List ℕ) → Ordered (office_writes o k v).next
  write_ordered v = go (written o k v)
    where
      go : {s : OfficeStep} → Written o k v s → Ordered s.next
      go (begins_it ready) = begun_ordered h k (begin_writing (o.desks.at k) v).next refl
      go (refuses m) = h

  pub hear_ordered : (n f from : ℕ) (m : Message) → Ordered (office_hears n f o from k m).next
  hear_ordered n f from m = go (office_case n f (o.desks.at k) from m)
    where
      go : {m : Message} {st : Step Desk OfficeDone} → OfficeCase n f (o.desks.at k) from m st → Ordered (keep_counting o k st).next
      go (took_counts below on short) = counted_ordered h k (acknowledge from (o.desks.at k)) on on
      go (took_ends below on all) = ended_ordered h k (close (acknowledge from (o.desks.at k))) refl
      go (office_passes e) = h
