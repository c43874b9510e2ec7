-- Bytes as numbers: whatever stands in twelve bytes, two numbers are written so.
-- Assumes nothing.
use Rattle.std.proofs.Common.{◌≡◌, ℕ, zero, suc, ◌-◌, ◌^◌, ◌<◌, ◌≤◌, List, [], ◌∷◌, ◌++◌, length, take, drop, replicate, sym, refl, ap, ◌∙◌, append-nil, arith, length-append, length-drop}
use lib.ListN.{length-replicate}
use Rattle.std.specs.Int.{w32, w64, from_be_bytes}
use Rattle.std.proofs.lemmas.List.{drop_all}
use Rattle.frames.specs.Format.{be}
use Rattle.frames.proofs.Bytes.{Small, small_take, small_rest, reads_4, reads_8}

small_zeros : (k : ℕ) → Small (replicate k 0)
small_zeros zero i = omega arith
small_zeros (suc k) zero = omega arith
small_zeros (suc k) (suc i) = small_zeros k i

small_append : (bs more : List ℕ) → Small bs → Small more → Small (bs ++ more)
small_append [] more h g i = g i
small_append (b ∷ bs) more h g zero = h zero
small_append (b ∷ bs) more h g (suc i) = small_append bs more (λ j. h (suc j)) g i

room_4 : (bs : List ℕ) → Small bs → from_be_bytes w32 bs < 2 ^ 32
room_4 bs h = omega (arith, h 0, h 1, h 2, h 3)

room_8 : (bs : List ℕ) → Small bs → from_be_bytes w64 bs < 2 ^ 64
room_8 bs h = omega (arith, h 0, h 1, h 2, h 3, h 4, h 5, h 6, h 7)

-- at most twelve bytes, filled up with zeros, are two numbers
pub record Filled (bs : List ℕ) : Type 0 where
  pub n : ℕ
  pub m : ℕ
  pub zeros : List ℕ
  pub n_room : n < 2 ^ 32
  pub m_room : m < 2 ^ 64
  pub is : be 4 n ++ be 8 m ≡ bs ++ zeros
  pub long : length zeros ≡ 12 - length bs

pub fill : (bs : List ℕ) → Small bs → length bs ≤ 12 → Filled bs
fill bs h l =
    let zeros = replicate (12 - length bs) 0 in
    let all = bs ++ zeros in
    let few : length zeros ≡ 12 - length bs = length-replicate (12 - length bs) 0 in
    let long : length all ≡ 12 = omega (arith, length-append bs zeros, few) in
    let small = small_append bs zeros h (small_zeros (12 - length bs)) in
    let rest = drop 4 all in
    let eight : length rest ≡ 8 = omega (arith, length-drop 4 all) in
    let small_8 = small_rest 4 all (take 4 all) rest (refl, refl, omega arith) small in
    let n = from_be_bytes w32 (take 4 all) in
    let m = from_be_bytes w64 (take 8 rest) in
    let note : all ≡ be 4 n ++ rest = reads_4 n small (refl, refl, omega arith) refl in
    let number : rest ≡ be 8 m ++ drop 8 rest = reads_8 m small_8 (refl, refl, omega (arith, length-drop 8 rest)) refl in
    let none : drop 8 rest ≡ [] = drop_all 8 rest (omega arith) in
    let whole : be 8 m ≡ rest = sym (append-nil (be 8 m)) ∙ ap (λ l. be 8 m ++ l) (sym none) ∙ sym number in
    record {
      n = n;
      m = m;
      zeros = zeros;
      n_room = room_4 (take 4 all) (small_take 4 all small);
      m_room = room_8 (take 8 rest) (small_take 8 rest small_8);
      is = ap (λ l. be 4 n ++ l) whole ∙ sym note;
      long = few;
    }
