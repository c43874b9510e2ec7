-- Bytes that are added one after the other, and the start of a frame.
-- Assumes nothing.
use Rattle.std.proofs.Common.{◌≡◌, ℕ, ◌≤◌, List, [], ◌∷◌, ◌++◌, length, vec_items, Vec, sym, ap, ◌∙◌, subst, append_assoc, append-nil, arith, length-append, length-take}
use native.Mathlib.Nat.{min-le_left}
use Rattle.std.specs.declared.alloc.Global.{Global}
use Rattle.notes.specs.Views.{bytes_of}
use Rattle.notes.specs.declared.value.Value.{Value}
use Rattle.frames.specs.Format.{be}
use Rattle.frames.specs.Fronts.{framed}
use Rattle.frames.specs.Room.{Added}
use Rattle.frames.proofs.Bytes.{length_be}

pub then : {a b c : Vec ℕ Global} {xs ys : List ℕ} → Added a b xs → Added b c ys → Added a c (xs ++ ys)
then {a} {b} {c} {xs} {ys} p q = record {
  items = q.items ∙ ap (λ l. l ++ ys) p.items ∙ append_assoc (vec_items a) xs ys;
  len = omega (arith, p.len, q.len, length-append xs ys);
  room = omega (arith, p.room, q.room);
}

pub same : {a b : Vec ℕ Global} {xs ys : List ℕ} → xs ≡ ys → Added a b xs → Added a b ys
same {a} {b} e p = subst (Added a b) e p

-- room was reserved, and then bytes were added
pub since : {a b : Vec ℕ Global} {old xs ys : List ℕ} → vec_items a ≡ old → xs ≡ ys → Added a b xs → vec_items b ≡ old ++ ys
since e f p = p.items ∙ (λ i. e i ++ f i)

-- the start of a frame
abbrev pub head : (k n m : ℕ) → List ℕ
head k n m = k ∷ (be 4 n ++ be 8 m)

pub length_head : (k n m : ℕ) → length (head k n m) ≡ 13
length_head k n m = omega (arith, length-append (be 4 n) (be 8 m), length_be 4 n, length_be 8 m)

pub head_none : (k n m : ℕ) → head k n m ≡ framed k n m []
head_none k n m = ap (λ l. k ∷ (be 4 n ++ l)) (sym (append-nil (be 8 m)))

pub head_rest : (k n m : ℕ) (rest : List ℕ) → head k n m ++ rest ≡ framed k n m rest
head_rest k n m rest = ap (λ l. k ∷ l) (append_assoc (be 4 n) (be 8 m) rest)

-- no value is too long
pub value_short : (v : Value) → length (bytes_of v) ≤ 64
value_short v = omega (arith, length-take v.length v.bytes, v.fits, min-le_left v.length (length v.bytes))
