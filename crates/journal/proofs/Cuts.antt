-- What is left of a disk when a file is opened, or cannot be.
-- Assumes nothing.
use Rattle.std.proofs.Common.{◌≡◌, ℕ, zero, suc, ◌-◌, ◌≤◌, min, List, [], ◌∷◌, ◌++◌, length, take, drop, sym, ap, ◌∙◌, subst, ⊎_elim, arith, length-append}
use native.Mathlib.Nat.{zero-min, min-zero, suc-min-suc}
use Rattle.std.proofs.lemmas.List.{take_all, take_at}
use Rattle.frames.specs.Format.{Frame}
use Rattle.frames.specs.Journal.{encode_all, Records, NoRecord}
use Rattle.frames.specs.declared.role.Role.{Role}
use Rattle.frames.proofs.Records.{encode_all-++}
use Rattle.protocol_files.proofs.Journals.{leads}
use Rattle.protocol_files.specs.Disk.{File, Disk, blank, contents, keep, with_beside, cut_back, sync, sync_folder, Cut, left, cut}
use Rattle.storage.specs.Changes.{Shortened, Perhaps}
use Rattle.storage.proofs.Unchanged.{shortened_none}
use Rattle.journal.specs.Openings.{Sound, opened_disk}

-- records that were synced take no more bytes than all that are found
pub sound_short : (r : Role) (d : Disk) (fs : List Frame) (n : ℕ) → Sound r d → Records r fs → n ≡ length (encode_all fs) → contents d.file ≡ encode_all fs ++ drop n (contents d.file) → NoRecord r (drop n (contents d.file)) → length d.file.synced ≤ n
sound_short r d fs n (ss, is, rs) records size front ends =
    let (gs, split) = leads r ss fs d.file.pending (drop n (contents d.file)) rs records ends (ap (λ (x : List ℕ). x ++ d.file.pending) (sym is) ∙ front) in
    omega (arith, size, ap length is, ap (λ (l : List Frame). length (encode_all l)) split, ap length (encode_all-++ ss gs), length-append (encode_all ss) (encode_all gs))

-- some first part of a first part
take_min : {A : Type 0} → (i j : ℕ) (l : List A) → take i (take j l) ≡ take (min i j) l
take_min {A} zero j l = ap (λ (k : ℕ). take k l) (sym (zero-min j))
take_min {A} (suc i) zero l = ap (λ (k : ℕ). take k l) (sym (min-zero (suc i)))
take_min {A} (suc i) (suc j) [] = ap (λ (k : ℕ). take {A = A} k []) (sym (suc-min-suc i j))
take_min {A} (suc i) (suc j) (x ∷ l) = ap (λ (r : List A). x ∷ r) (take_min i j l) ∙ ap (λ (k : ℕ). take k (x ∷ l)) (sym (suc-min-suc i j))

take_append : {A : Type 0} → (n : ℕ) (a b : List A) → take n a ++ take (n - length a) b ≡ take n (a ++ b)
take_append {A} zero a b = let none : 0 - length a ≡ 0 = omega arith in ap (λ (k : ℕ). take k b) none
take_append {A} (suc n) [] b = let all : suc n - 0 ≡ suc n = omega arith in ap (λ (k : ℕ). take k b) all
take_append {A} (suc n) (x ∷ a) b = let less : suc n - suc (length a) ≡ n - length a = omega arith in ap (λ (k : ℕ). x ∷ (take n a ++ take k b)) less ∙ ap (λ (r : List A). x ∷ r) (take_append n a b)

-- nothing of the file is lost
pub scribbled_left : (d : Disk) (g : File) → Cut d (with_beside g d)
scribbled_left d g = let (k, same) = shortened_none (with_beside g d) in subst (λ (e : Disk). Cut d e) (sym same) (left k g)

-- cut back behind what is synced
cut_kept : (d : Disk) (n : ℕ) → length d.file.synced ≤ n → cut_back n d ≡ record { file = keep (n - length d.file.synced) d.file; beside = d.beside; former = d.former }
cut_kept d n short = ap (λ (s : List ℕ). record { file = record { synced = s; pending = take (n - length d.file.synced) d.file.pending }; beside = d.beside; former = d.former }) (take_all n d.file.synced short)

module _ (d : Disk) (n : ℕ) (short : length d.file.synced ≤ n) where
  abbrev clear : Disk
  clear = with_beside blank d

  pub cut_left : Cut d (cut_back n clear)
  cut_left = subst (λ (e : Disk). Cut d e) (sym (cut_kept clear n short)) (left (n - length d.file.synced) blank)

  pub perhaps_left : (e : Disk) → Perhaps (cut_back n) clear e → Cut d e
  perhaps_left e = ⊎_elim (λ (same : e ≡ clear). subst (λ (x : Disk). Cut d x) (sym same) (scribbled_left d blank)) (λ (same : e ≡ cut_back n clear). subst (λ (x : Disk). Cut d x) (sym same) cut_left)

  pub shortened_left : (e : Disk) → Shortened (sync_folder (cut_back n clear)) e → Cut d e
  shortened_left e (k, same) =
      subst (λ (x : Disk). Cut d x)
      (sym (same ∙ ap (λ (x : Disk). record { file = keep k x.file; beside = blank; former = [] }) (cut_kept clear n short) ∙ ap (λ (p : List ℕ). record { file = record { synced = d.file.synced; pending = p }; beside = blank; former = [] }) (take_min k (n - length d.file.synced) d.file.pending)))
      (cut (min k (n - length d.file.synced)) blank)

-- cut back to its records and synced
pub settled : (d : Disk) (fs : List Frame) (n : ℕ) → n ≡ length (encode_all fs) → contents d.file ≡ encode_all fs ++ drop n (contents d.file) → sync (sync_folder (cut_back n (with_beside blank d))) ≡ opened_disk fs
settled d fs n size front =
    ap (λ (s : List ℕ). record { file = record { synced = s; pending = [] }; beside = blank; former = [] })
    (take_append n d.file.synced d.file.pending ∙ ap (take n) front ∙ take_at (encode_all fs) (drop n (contents d.file)) n (sym size))
