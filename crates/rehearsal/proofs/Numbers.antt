-- Which words are numbers.
-- Assumes nothing.
use Rattle.std.proofs.Common.{◌≡◌, ℕ, ◌+◌, ◌^◌, ◌<◌, List, [], ◌∷◌, length, get_or, Option, Some, Ok, Err, IsErrAnd, MatchResult, ◌≢◌, decimal, Result, refl, sym, ap, ◌∙◌, ⊎_elim, arith}
use Rattle.std.specs.Str.Parse.{AllDigits, digits_value, ParsesUnsigned}
use Rattle.std.proofs.lemmas.Str.Parse.{IsNumeralModel, numerals_by_value, tells_digits, parse_plain, digit_at}
use Rattle.std.proofs.lemmas.Result.{OkIff-at_ok}
use Rattle.std.proofs.lemmas.Fmt.{decimal_nonempty, decimal_is_IsNumeral, decimal_digit, first_decimal, decimal-digits_value, parse-decimal, decimal_injective}
use Rattle.std.proofs.lemmas.Bool.{cases_eq}

own : IsNumeralModel (AllDigits 10) (digits_value 10)
own = numerals_by_value (AllDigits 10) tells_digits

-- no number is written with a sign, or with zeros before it
pub none_signed : (ds : List ℕ) → get_or ds 0 0 ≡ 43 → (n : ℕ) → n < 2 ^ 64 → ds ≡ decimal n → ⊥
none_signed ds p n h e =
    let digit = digit_at (decimal n) 0 (decimal_is_IsNumeral n h).0.1 (decimal_nonempty n h) in
    let l = ap (λ (xs : List ℕ). get_or xs 0 0) e in
    omega (arith, digit, l, p)

pub none_padded : (ds : List ℕ) → get_or ds 0 0 ≡ 48 → 1 < length ds → (n : ℕ) → n < 2 ^ 64 → ds ≡ decimal n → ⊥
none_padded ds p more n h e = ⊎_elim zero above (cases_eq n 0)
  where
    first : get_or ds 0 0 ≡ get_or (decimal n) 0 0
    first = ap (λ (xs : List ℕ). get_or xs 0 0) e

    zero : n ≡ 0 → ⊥
    zero z =
        let one : decimal n ≡ (48 + n) ∷ [] = decimal_digit n (omega arith) in
        let l = ap (λ (xs : List ℕ). length xs) (e ∙ one) in
        omega (arith, l, more)

    above : (n ≡ 0 → ⊥) → ⊥
    above some =
        let positive : 0 < n = omega arith in
        let f = first_decimal n positive h in
        omega (arith, f, first, p)

-- any other text is read as what it writes
number_read : {E : Type 0} (ds : List ℕ) (r : Result ℕ E) (n : ℕ) → ParsesUnsigned 64 10 ds r → r ≡ Ok n → (get_or ds 0 0 ≡ 43 → ⊥) → (get_or ds 0 0 ≡ 48 → length ds ≡ 1) → ds ≡ decimal n
number_read ds r n reads is plain alone =
    let p = OkIff-at_ok r _ _ n (parse_plain own 64 ds r reads plain) is in
    sym (ap decimal p.1 ∙ decimal-digits_value own ds p.0.0 p.0.1 alone p.0.2)

number_unread : {E : Type 0} (ds : List ℕ) (r : Result ℕ E) (d : E) → ParsesUnsigned 64 10 ds r → r ≡ Err d → (n : ℕ) → n < 2 ^ 64 → ds ≡ decimal n → ⊥
number_unread ds r d reads is n h e =
    let back = parse-decimal 64 n ds r h h e reads in
    let z : ◌≡◌ {A = ℕ} 0 1 = cc in
    omega arith

-- and so it is where another error is told in place of the parser's
pub number_parsed : {E F : Type 0} (P : E → F → Type 0) (ds : List ℕ) (r : Result ℕ E) (q : Result ℕ F) → ParsesUnsigned 64 10 ds r → MatchResult r (λ n. q ≡ Ok n) (λ e. IsErrAnd q (P e)) → (get_or ds 0 0 ≡ 43 → ⊥) → (get_or ds 0 0 ≡ 48 → length ds ≡ 1) → MatchResult q (λ n. ds ≡ decimal n) (λ _. (n : ℕ) → n < 2 ^ 64 → ds ≢ decimal n)
number_parsed {E} P ds (Ok n) (Ok m) reads same plain alone = let e : n ≡ m = cc in number_read {E = E} ds (Ok n) n reads refl plain alone ∙ ap decimal e
number_parsed P ds (Ok n) (Err f) reads same plain alone = absurd (cc)
number_parsed P ds (Err e) (Ok m) reads none plain alone = absurd none
number_parsed P ds (Err e) (Err f) reads same plain alone = number_unread ds (Err e) e reads refl

-- a word writes one number only
pub same_number : (w : Option (List ℕ)) (m n : ℕ) → m < 2 ^ 64 → n < 2 ^ 64 → w ≡ Some (decimal m) → w ≡ Some (decimal n) → m ≡ n
same_number w m n small small' is is' = let e : decimal m ≡ decimal n = cc in decimal_injective m n small small' e
