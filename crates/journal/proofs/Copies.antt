-- One window more of what is copied.
-- Assumes nothing.
use Rattle.std.proofs.Common.{◌≡◌, ℕ, zero, suc, ◌+◌, ◌-◌, ◌<◌, ◌≤◌, min, List, [], ◌∷◌, ◌++◌, length, take, drop, sym, ap, ◌∙◌, suc-add, zero-add, arith, length-drop, length-take}

take_on : {A : Type 0} → (i j : ℕ) (l : List A) → take i l ++ take j (drop i l) ≡ take (i + j) l
take_on {A} zero j l = ap (λ (k : ℕ). take k l) (sym (zero-add j))
take_on {A} (suc i) zero [] = ap (λ (k : ℕ). take {A = A} k []) (sym (suc-add i 0))
take_on {A} (suc i) (suc j) [] = ap (λ (k : ℕ). take {A = A} k []) (sym (suc-add i (suc j)))
take_on {A} (suc i) j (x ∷ l) = ap (λ (r : List A). x ∷ r) (take_on i j l) ∙ ap (λ (k : ℕ). take k (x ∷ l)) (sym (suc-add i j))

-- of bs, of which `sure` bytes are to be copied, w is the next window
pub window : (bs w : List ℕ) (place most sure next : ℕ) → sure ≤ length bs → place < sure → sure < 18446744073709551616 → most ≤ sure - place → w ≡ take most (drop place bs) → next ≡ min (place + length w) 18446744073709551615 → (next ≤ sure) × (take place bs ++ w ≡ take next bs)
window bs w place most sure next enough less fits few is size =
    let long : length w ≡ most = ap length is ∙ (let l = length-take most (drop place bs) in let d = length-drop place bs in omega arith) in
    let same : place + most ≡ next = omega (arith, long) in
    (omega (arith, long), ap (λ (x : List ℕ). take place bs ++ x) is ∙ take_on place most bs ∙ ap (λ (k : ℕ). take k bs) same)
