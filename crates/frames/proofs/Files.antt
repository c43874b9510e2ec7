-- A file splits in one way, and what a cut leaves of it.
-- Assumes nothing.
use Rattle.std.proofs.Common.{◌≡◌, ℕ, suc, ◌+◌, ◌-◌, ◌⊎◌, List, [], ◌∷◌, ◌++◌, length, take, drop, sym, refl, ap, ◌∙◌, inl, inr, ⊎_elim, append_assoc, append-nil, arith, length-append, take-append-drop, length-take-le}
use lib.Seq.{take-nil, take-append-le, take-append-add}
use Rattle.std.proofs.lemmas.Bool.{cases_lt}
use Rattle.frames.specs.Format.{Frame, encode}
use Rattle.frames.specs.Journal.{Records, encode_all, NoRecord, StrictFront, Splits, Laws}
use Rattle.frames.specs.declared.role.Role.{Role}
use Rattle.frames.proofs.Frames.{unique}
use Rattle.frames.proofs.Records.{record_some, encode_all-++, records-++, records_take}

same_records : (r : Role) (fs gs : List Frame) (xs ys : List ℕ) → Records r fs → Records r gs → NoRecord r xs → NoRecord r ys → encode_all fs ++ xs ≡ encode_all gs ++ ys → (fs ≡ gs) × (xs ≡ ys)
same_records r [] [] xs ys p q u v e = (refl, e)
same_records r [] (g ∷ gs) xs ys p q u v e = absurd (u g _ q.0 (e ∙ append_assoc (encode g) (encode_all gs) ys))
same_records r (f ∷ fs) [] xs ys p q u v e = absurd (v f _ p.0 (sym e ∙ append_assoc (encode f) (encode_all fs) xs))
same_records r (f ∷ fs) (g ∷ gs) xs ys p q u v e =
    let here = unique f g _ _ p.0.0 q.0.0 (sym (append_assoc (encode f) (encode_all fs) xs) ∙ e ∙ append_assoc (encode g) (encode_all gs) ys) in
    let more = same_records r fs gs xs ys p.1 q.1 u v here.1 in
    (λ i. here.0 i ∷ more.0 i, more.1)

pub once : (r : Role) (bs : List ℕ) (fs gs : List Frame) (xs ys : List ℕ) → Splits r bs fs xs → Splits r bs gs ys → (fs ≡ gs) × (xs ≡ ys)
once r bs fs gs xs ys a b =
    same_records r fs gs xs ys a.records b.records a.ends b.ends (sym a.whole ∙ b.whole)

pub splits_more : (r : Role) (fs gs : List Frame) (bs rest : List ℕ) → Records r fs → Splits r bs gs rest → Splits r (encode_all fs ++ bs) (fs ++ gs) rest
splits_more r fs gs bs rest p s = record {
  whole = ap (λ l. encode_all fs ++ l) s.whole ∙ sym (append_assoc (encode_all fs) (encode_all gs) rest) ∙ ap (λ l. l ++ rest) (sym (encode_all-++ fs gs));
  records = records-++ r fs gs p s.records;
  ends = s.ends;
}

pub none_in_nothing : (r : Role) → NoRecord r []
none_in_nothing r f more h e = omega (arith, ap length e, length-append (encode f) more, record_some r f h)

-- a strict front of a record has no whole one
pub none_in_front : (r : Role) (bs : List ℕ) → StrictFront r bs → NoRecord r bs
none_in_front r bs (f, k, h, short, is) g more q e =
    let all : encode f ++ [] ≡ encode g ++ (more ++ drop k (encode f)) = append-nil (encode f) ∙ sym (take-append-drop k (encode f)) ∙ ap (λ l. l ++ drop k (encode f)) (sym is ∙ e) ∙ append_assoc (encode g) more _ in
    let long = ap (λ x. length (encode x)) (unique f g [] _ h.0 q.0 all).0 in
    omega (arith, long, ap length is, ap length e, length-append (encode g) more, length-take-le k (encode f) (omega arith))

-- the records fs are cut off behind k bytes: m whole ones are left, and then nothing or a strict front of the next
record Cut (r : Role) (fs : List Frame) (k : ℕ) : Type 0 where
  m : ℕ
  rest : List ℕ
  is : take k (encode_all fs) ≡ encode_all (take m fs) ++ rest
  left : (rest ≡ []) ⊎ StrictFront r rest

cuts : (r : Role) (fs : List Frame) (k : ℕ) → Records r fs → Cut r fs k
cuts r [] k p = record { m = 0; rest = []; is = take-nil k; left = inl refl }
cuts r (f ∷ fs) k p =
    ⊎_elim
    (λ h. record { m = 0; rest = take k (encode f); is = take-append-le k (encode f) (encode_all fs) (omega arith); left = inr (f, k, p.0, h, refl) })
    (λ h.
    let more = cuts r fs (k - length (encode f)) p.1 in
    let at : k ≡ length (encode f) + (k - length (encode f)) = omega arith in
    record {
      m = suc more.m;
      rest = more.rest;
      is = ap (λ n. take n (encode f ++ encode_all fs)) at ∙ take-append-add (encode f) (encode_all fs) _ ∙ ap (λ l. encode f ++ l) more.is ∙ sym (append_assoc (encode f) (encode_all (take more.m fs)) more.rest);
      left = more.left;
    })
    (cases_lt k (length (encode f)))

ended : (r : Role) (rest : List ℕ) → (rest ≡ []) ⊎ StrictFront r rest → NoRecord r rest
ended r rest (inl e) = rw e (none_in_nothing r)
ended r rest (inr s) = none_in_front r rest s

pub cut : (r : Role) (fs : List Frame) (k : ℕ) → Records r fs → (m : ℕ) × (rest : List ℕ) × Splits r (take k (encode_all fs)) (take m fs) rest × ((rest ≡ []) ⊎ StrictFront r rest)
cut r fs k p =
    let c = cuts r fs k p in
    (c.m, c.rest, record { whole = c.is; records = records_take r c.m fs p; ends = ended r c.rest c.left }, c.left)

pub laws : Laws
laws = record { once = once; cut = cut }
