-- Notes that are the same, and who told one.
-- Assumes nothing.
use Rattle.std.proofs.Common.{◌≡◌, ℕ, ◌<◌, true, false, ◌&&◌, arith}
use Rattle.std.proofs.lemmas.Slice.Eq.{bytes_eq-Decides}
use Rattle.std.proofs.lemmas.Bool.{and_parts}
use Rattle.register.specs.Note.{Note, same}
use Rattle.register.specs.Rule.{Replies, IsRead}
use Rattle.register.proofs.Counting.{nobody, beyond}

pub note_path : (x y : Note) → x.edition ≡ y.edition → x.value ≡ y.value → x ≡ y
note_path x y e v = λ i. record { edition = e i; value = v i }

pub same_true : (x y : Note) → same x y ≡ true → x ≡ y
same_true x y e = let bytes = bytes_eq-Decides x.value y.value in note_path x y (grind arith) (grind arith)

pub true_same : (x y : Note) → x ≡ y → same x y ≡ true
true_same x y e = let bytes = bytes_eq-Decides x.value y.value in grind arith

-- what is read was told by somebody
pub teller : {n f : ℕ} {p : Replies} {x : Note} → IsRead n f p x → (i : ℕ) × (i < n) × (p.heard i ≡ true) × (p.told i ≡ x)
teller {n} {f} {p} {x} read =
    let (i, l, voted, _) = beyond n (λ i. p.heard i && same (p.told i) x) (λ i. false) (omega (arith, nobody n, read.enough)) in
    let (heard, alike) = and_parts (p.heard i) (same (p.told i) x) voted in
    (i, l, heard, same_true (p.told i) x alike)
