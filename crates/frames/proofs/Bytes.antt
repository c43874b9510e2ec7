-- Numbers as bytes, the high byte first.
-- Assumes nothing.
use Rattle.std.proofs.Common.{◌≡◌, ℕ, zero, suc, ◌+◌, ◌*◌, ◌/◌, ◌%◌, ◌^◌, ◌<◌, List, [], ◌∷◌, ◌++◌, length, get_or, take, drop, sym, refl, ap, ◌∙◌, subst, ⊎_elim, pow-suc, arith, length-append, length-take, take-append-drop, length-take-le}
use native.Mathlib.Nat.{div-div-eq-div-mul}
use Rattle.std.specs.Int.{w32, w64, from_be_bytes}
use Rattle.std.proofs.lemmas.Bool.{cases_lt}
use Rattle.std.proofs.lemmas.Nat.{div_below, div-add-mod', be_bytes_4, be_bytes_8}
use Rattle.std.proofs.lemmas.List.{take_at, drop_at, get_or-take, get_or-drop, get_or_past, same_from_push}
use Rattle.frames.specs.Format.{be}

be_suc : (k n : ℕ) → be (suc k) n ≡ be k (n / 256) ++ ((n % 256) ∷ [])
unfolding be
be_suc k n = refl

pub length_be : (k n : ℕ) → length (be k n) ≡ k
unfolding be
length_be zero n = refl
length_be (suc k) n = length-append (be k (n / 256)) ((n % 256) ∷ []) ∙ omega (arith, length_be k (n / 256))

-- two numbers of as many bytes, before whatever follows
pub same_front : (k m n : ℕ) (xs ys : List ℕ) → be k m ++ xs ≡ be k n ++ ys → be k m ≡ be k n
same_front k m n xs ys e =
    sym (take_at (be k m) xs k (length_be k m)) ∙ ap (take k) e ∙ take_at (be k n) ys k (length_be k n)

pub same_rest : (k m n : ℕ) (xs ys : List ℕ) → be k m ++ xs ≡ be k n ++ ys → xs ≡ ys
same_rest k m n xs ys e =
    sym (drop_at (be k m) xs k (length_be k m)) ∙ ap (drop k) e ∙ drop_at (be k n) ys k (length_be k n)

pub same_number : (k m n : ℕ) → m < 256 ^ k → n < 256 ^ k → be k m ≡ be k n → m ≡ n
same_number zero m n a b e = omega arith
same_number (suc k) m n a b e =
    let p = same_from_push _ _ _ _ (sym (be_suc k m) ∙ e ∙ be_suc k n) in
    let a' : m < 256 ^ k * 256 = rw pow-suc at a in
    let b' : n < 256 ^ k * 256 = rw pow-suc at b in
    let q = same_number k (m / 256) (n / 256) (div_below m 256 (256 ^ k) (omega arith) a') (div_below n 256 (256 ^ k) (omega arith) b') p.0 in
    omega (arith, p.1, q, div-add-mod' m 256, div-add-mod' n 256)

-- what `to_be_bytes` gives
pub be_4 : (n : ℕ) → be 4 n ≡ (n / 16777216 % 256) ∷ (n / 65536 % 256) ∷ (n / 256 % 256) ∷ (n % 256) ∷ []
unfolding be
be_4 n = simp div-div-eq-div-mul

pub be_8 : (n : ℕ) → be 8 n ≡ (n / 72057594037927936 % 256) ∷ (n / 281474976710656 % 256) ∷ (n / 1099511627776 % 256) ∷ (n / 4294967296 % 256) ∷ (n / 16777216 % 256) ∷ (n / 65536 % 256) ∷ (n / 256 % 256) ∷ (n % 256) ∷ []
unfolding be
be_8 n = simp div-div-eq-div-mul

-- each is a byte
abbrev pub Small : List ℕ → Type 0
Small bs = (i : ℕ) → get_or bs i 0 < 256

pub small_behind : {bs body : List ℕ} {k : ℕ} → bs ≡ k ∷ body → Small bs → Small body
small_behind e h i = subst (λ xs. get_or xs (suc i) 0 < 256) e (h (suc i))

pub small_take : (k : ℕ) (bs : List ℕ) → Small bs → Small (take k bs)
small_take k bs h i =
    ⊎_elim
    (λ l. subst (λ b. b < 256) (sym (get_or-take k bs i 0 l)) (h i))
    (λ l. subst (λ b. b < 256) (sym (get_or_past (take k bs) i 0 (omega (arith, length-take k bs)))) (omega arith))
    (cases_lt i k)

-- what `split_first_chunk` gives
abbrev pub IsChunk : ℕ → (bs front rest : List ℕ) → Type 0
IsChunk k bs front rest = (front ≡ take k bs) × (rest ≡ drop k bs) × (length rest + k ≡ length bs)

pub small_rest : (k : ℕ) (bs front rest : List ℕ) → IsChunk k bs front rest → Small bs → Small rest
small_rest k bs front rest (_, is, _) h i = subst (λ xs. get_or xs i 0 < 256) (sym is) (subst (λ b. b < 256) (sym (get_or-drop k bs i 0)) (h (k + i)))

-- the number that `from_be_bytes` reads in it
pub reads_4 : {bs front rest : List ℕ} (n : ℕ) → Small bs → IsChunk 4 bs front rest → n ≡ from_be_bytes w32 front → bs ≡ be 4 n ++ rest
reads_4 {bs} {front} {rest} n h (is, is_rest, long) from =
    let small : Small front = subst Small (sym is) (small_take 4 bs h) in
    let four : length front ≡ 4 = ap length is ∙ length-take-le 4 bs (omega (arith, long)) in
    sym ((λ i. (be_4 n ∙ be_bytes_4 front n four small from ∙ is) i ++ is_rest i) ∙ take-append-drop 4 bs)

pub reads_8 : {bs front rest : List ℕ} (n : ℕ) → Small bs → IsChunk 8 bs front rest → n ≡ from_be_bytes w64 front → bs ≡ be 8 n ++ rest
reads_8 {bs} {front} {rest} n h (is, is_rest, long) from =
    let small : Small front = subst Small (sym is) (small_take 8 bs h) in
    let eight : length front ≡ 8 = ap length is ∙ length-take-le 8 bs (omega (arith, long)) in
    sym ((λ i. (be_8 n ∙ be_bytes_8 front n eight small from ∙ is) i ++ is_rest i) ∙ take-append-drop 8 bs)

-- they are too few for a number
pub too_few : (k : ℕ) {bs : List ℕ} → length bs < k → (n : ℕ) (more : List ℕ) → bs ≡ be k n ++ more → ⊥
too_few k l n more e = omega (arith, ap length e, length-append (be k n) more, length_be k n)
