-- When bytes are the front of a record, and not all of it.
-- Assumes nothing.
use Rattle.std.proofs.Common.{◌≡◌, ℕ, ◌+◌, ◌-◌, ◌^◌, ◌<◌, ◌≤◌, true, false, cond, ltb, List, [], ◌∷◌, ◌++◌, length, get_or, take, drop, replicate, Decides, sym, refl, ap, ◌∙◌, subst, ⊎_elim, append_assoc, append-nil, arith, length-append, length-drop, take-append-drop, length-take-le}
use lib.ListN.{length-replicate}
use Rattle.std.proofs.lemmas.List.{take_at, drop_more, get_or_at, get_or_append_left, nil_from_length}
use Rattle.std.proofs.lemmas.Bool.{false≢true, cases_lt, ltb-true, lt-ltb}
use Rattle.std.proofs.lemmas.Bool.Decides.{nat_tests}
use Rattle.protocol.specs.Message.{Take, Took, Ask, Told}
use Rattle.frames.specs.Format.{Frame, Sent, Begun, Ended, be, kind, about, number, valued, tail, encode}
use Rattle.frames.specs.Fronts.{framed, value_early, ends_early_lem}
use Rattle.frames.specs.Journal.{IsRecord, StrictFront}
use Rattle.frames.specs.Views.{number_of, holds}
use Rattle.frames.specs.declared.role.Role.{Role}
use Rattle.frames.specs.declared.role.Role.TheVariants.{Warden, Office}
use Rattle.frames.specs.declared.kind.Kind.{Kind}
use Rattle.frames.specs.declared.kind.Kind.TheVariants as kinds
use Rattle.frames.proofs.Bytes.{length_be, Small, small_take}
use Rattle.frames.proofs.Fronts.{kind_at, kind_is, allowed_is, behind}
use Rattle.frames.proofs.Records.{record_some}
use Rattle.frames.proofs.Room.{head_none, head_rest}
use Rattle.frames.proofs.Written.{fill}

-- ---- the front of a record, by what it lacks

pub strict : (r : Role) (bs : List ℕ) (f : Frame) (more : List ℕ) → IsRecord r f → encode f ≡ bs ++ more → 0 < length more → StrictFront r bs
strict r bs f more h e some =
    (f, length bs, h, omega (arith, ap length e, length-append bs more), sym (take_at bs more (length bs) refl) ∙ ap (take (length bs)) (sym e))

-- some record begins with bs and goes on
record Lacks (r : Role) (bs : List ℕ) : Type 0 where
  frame : Frame
  more : List ℕ
  is_record : IsRecord r frame
  is : encode frame ≡ bs ++ more
  some : 0 < length more

lacks : (r : Role) (bs : List ℕ) → StrictFront r bs → Lacks r bs
lacks r bs (f, k, h, short, e) = record {
  frame = f;
  more = drop k (encode f);
  is_record = h;
  is = sym (take-append-drop k (encode f)) ∙ ap (λ l. l ++ drop k (encode f)) (sym e);
  some = omega (arith, length-drop k (encode f));
}

-- ---- what ends early is a front of some record

encode_is : (f : Frame) → encode f ≡ framed (kind f) (about f) (number f) (tail f)
unfolding encode
encode_is f = refl

-- a record with a value: x makes it of its two numbers and the value
module _ (r : Role) (k : ℕ) (x : (n m : ℕ) → List ℕ → Frame) (fits : (n m : ℕ) (v : List ℕ) → n < 2 ^ 32 → m < 2 ^ 64 → length v ≤ 64 → IsRecord r (x n m v)) (is : (n m : ℕ) (v : List ℕ) → encode (x n m v) ≡ framed k n m (valued v)) where
  no_length : (body : List ℕ) → Small body → length body ≤ 12 → StrictFront r (k ∷ body)
  no_length body h l =
      let p = fill body h l in
      let n = p.n in
      let m = p.m in
      let rest = p.zeros ++ (0 ∷ []) in
      let e : encode (x n m []) ≡ (k ∷ body) ++ rest = is n m [] ∙ sym (head_rest k n m (0 ∷ [])) ∙ ap (λ l. k ∷ (l ++ (0 ∷ []))) p.is ∙ ap (λ l. k ∷ l) (append_assoc body p.zeros (0 ∷ [])) in
      strict r (k ∷ body) (x n m []) rest (fits n m [] p.n_room p.m_room (omega arith)) e (omega (arith, length-append p.zeros (0 ∷ [])))

  short_value : (body : List ℕ) → Small body → 12 < length body → get_or body 12 0 ≤ 64 → length body - 12 ≤ get_or body 12 0 → StrictFront r (k ∷ body)
  short_value body h l small short =
      let front = take 12 body in
      let size = get_or body 12 0 in
      let had = drop (12 + 1) body in
      let rest : List ℕ = replicate (size - length had) 0 in
      let long : length front ≡ 12 = length-take-le 12 body (omega arith) in
      let p = fill front (small_take 12 body h) (omega arith) in
      let n = p.n in
      let m = p.m in
      let zeros : p.zeros ≡ [] = nil_from_length p.zeros (omega (arith, p.long)) in
      let numbers : be 4 n ++ be 8 m ≡ front = p.is ∙ ap (λ l. front ++ l) zeros ∙ append-nil front in
      let d : length had ≡ length body - (12 + 1) = length-drop (12 + 1) body in
      let many : length rest ≡ size - length had = length-replicate (size - length had) 0 in
      let all : length (had ++ rest) ≡ size = length-append had rest ∙ omega arith in
      let parts : front ++ (size ∷ had) ≡ body = ap (λ l. front ++ l) (sym (drop_more body 12 0 l)) ∙ take-append-drop 12 body in
      let e : encode (x n m (had ++ rest)) ≡ (k ∷ body) ++ rest =
      is n m (had ++ rest) ∙ sym (head_rest k n m (valued (had ++ rest))) ∙ (λ i. k ∷ (numbers i ++ (all i ∷ (had ++ rest)))) ∙ ap (λ l. k ∷ l) (sym (append_assoc front (size ∷ had) rest)) ∙ ap (λ l. k ∷ (l ++ rest)) parts in
      strict r (k ∷ body) (x n m (had ++ rest)) rest (fits n m (had ++ rest) p.n_room p.m_room (omega arith)) e (omega arith)

  early_value : (body : List ℕ) → Small body → value_early body ≡ true → StrictFront r (k ∷ body)
  early_value body h e =
      ⊎_elim
      (λ l.
      let small : get_or body 12 0 ≤ 64 = grind (arith, nat_tests) in
      let short : length body - 12 ≤ get_or body 12 0 = grind (arith, nat_tests) in
      short_value body h l small short)
      (λ l. no_length body h l)
      (cases_lt 12 (length body))

early_ended : (body : List ℕ) → Small body → length body < 12 → StrictFront Office (6 ∷ body)
early_ended body h l =
    let p = fill body h (omega arith) in
    let n = p.n in
    let m = p.m in
    strict Office (6 ∷ body) (Ended n m) p.zeros ((p.n_room, p.m_room), refl) (encode_is (Ended n m) ∙ sym (head_none 6 n m) ∙ ap (λ l. 6 ∷ l) p.is) (omega (arith, p.long))

early_front : (r : Role) (k : Kind) (body : List ℕ) → holds r k ≡ true → Small body → ends_early_lem k body ≡ true → StrictFront r (number_of k ∷ body)
early_front Warden kinds.Take body o h e =
    early_value Warden 1 (λ n m v. Sent n (Take (record { edition = m; value = v }))) (λ n m v a b c. ((a, (b, c)), refl)) (λ n m v. encode_is (Sent n (Take (record { edition = m; value = v })))) body h e
early_front Warden kinds.Took body o h e = absurd (false≢true o)
early_front Warden kinds.Ask body o h e = absurd (false≢true o)
early_front Warden kinds.Told body o h e = absurd (false≢true o)
early_front Warden kinds.Begun body o h e = absurd (false≢true o)
early_front Warden kinds.Ended body o h e = absurd (false≢true o)
early_front Office kinds.Take body o h e = absurd (false≢true o)
early_front Office kinds.Took body o h e = absurd (false≢true o)
early_front Office kinds.Ask body o h e = absurd (false≢true o)
early_front Office kinds.Told body o h e = absurd (false≢true o)
early_front Office kinds.Begun body o h e =
    early_value Office 5 (λ n m v. Begun n (record { edition = m; value = v })) (λ n m v a b c. ((a, (b, c)), refl)) (λ n m v. encode_is (Begun n (record { edition = m; value = v }))) body h e
early_front Office kinds.Ended body o h e = early_ended body h (ltb-true (length body) 12 e)

-- ---- a front of a record ends early

value_lacks : (body more v : List ℕ) (n m : ℕ) → body ++ more ≡ be 4 n ++ (be 8 m ++ (valued v ++ [])) → 0 < length more → length v ≤ 64 → value_early body ≡ true
value_lacks body more v n m e some short =
    let p = be 4 n ++ be 8 m in
    let long : length p ≡ 12 = omega (arith, length-append (be 4 n) (be 8 m), length_be 4 n, length_be 8 m) in
    let all : body ++ more ≡ p ++ (length v ∷ (v ++ [])) = e ∙ sym (append_assoc (be 4 n) (be 8 m) (valued v ++ [])) in
    let size : length body + length more ≡ 13 + length v = sym (length-append body more) ∙ ap length all ∙ omega (arith, length-append p (length v ∷ (v ++ [])), length-append v []) in
    ⊎_elim
    (λ l.
    let here : get_or body 12 0 ≡ length v = sym (get_or_append_left body more 0 12 l) ∙ ap (λ l. get_or l 12 0) all ∙ get_or_at p (length v) (v ++ []) 0 12 long in
    grind (arith, nat_tests))
    (λ l. grind (arith, nat_tests))
    (cases_lt 12 (length body))

early : (r : Role) (f : Frame) (body more : List ℕ) → IsRecord r f → body ++ more ≡ be 4 (about f) ++ (be 8 (number f) ++ (tail f ++ [])) → 0 < length more → ends_early_lem (kind_at f) body ≡ true
early Warden (Sent k (Take x)) body more h e some = value_lacks body more x.value k x.edition e some h.0.1.1
early Warden (Sent k (Took x)) body more h e some = absurd (false≢true h.1)
early Warden (Sent k (Ask x)) body more h e some = absurd (false≢true h.1)
early Warden (Sent k (Told n x)) body more h e some = absurd (false≢true h.1)
early Warden (Begun k x) body more h e some = absurd (false≢true h.1)
early Warden (Ended k x) body more h e some = absurd (false≢true h.1)
early Office (Sent k x) body more h e some = absurd (false≢true h.1)
early Office (Begun k x) body more h e some = value_lacks body more x.value k x.edition e some h.0.1.1
early Office (Ended k x) body more h e some =
    lt-ltb (length body) 12 (omega (arith, ap length e, length-append body more, length-append (be 4 k) (be 8 x ++ []), length-append (be 8 x) [], length_be 4 k, length_be 8 x))

-- ---- both together

-- the kind that a number stands for
abbrev kind_from : ℕ → Kind
kind_from n =
    cond (ltb n 2) kinds.Take (cond (ltb n 3) kinds.Took (cond (ltb n 4) kinds.Ask (cond (ltb n 5) kinds.Told (cond (ltb n 6) kinds.Begun kinds.Ended))))

kind_back : (k : Kind) → kind_from (number_of k) ≡ k
kind_back kinds.Take = refl
kind_back kinds.Took = refl
kind_back kinds.Ask = refl
kind_back kinds.Told = refl
kind_back kinds.Begun = refl
kind_back kinds.Ended = refl

-- what a front says of its kind and of the bytes behind it
late : (r : Role) (k : Kind) (body : List ℕ) → StrictFront r (number_of k ∷ body) → (holds r k ≡ true) × (ends_early_lem k body ≡ true)
late r k body s =
    let l = lacks r (number_of k ∷ body) s in
    let f = l.frame in
    let b = behind l.is f [] (sym (append-nil (encode f))) in
    let same : kind_at f ≡ k = sym (kind_back (kind_at f)) ∙ ap kind_from (sym (kind_is f) ∙ b.0) ∙ kind_back k in
    (ap (holds r) (sym same) ∙ sym (allowed_is r f) ∙ l.is_record.1, ap (λ j. ends_early_lem j body) (sym same) ∙ early r f body l.more l.is_record b.1 l.some)

pub none_of_kind : (r : Role) (bs : List ℕ) → 0 < length bs → ((k : Kind) (more : List ℕ) → bs ≡ number_of k ∷ more → ⊥) → StrictFront r bs → ⊥
none_of_kind r [] some none s = omega arith
none_of_kind r (b ∷ bs) some none s =
    let l = lacks r (b ∷ bs) s in
    let f = l.frame in
    let e = (behind l.is f [] (sym (append-nil (encode f)))).0 in
    none (kind_at f) bs (ap (λ n. n ∷ bs) (sym e ∙ kind_is f))

pub front_of_nothing : (r : Role) → StrictFront r []
front_of_nothing Warden =
    let f = Sent 0 (Take (record { edition = 0; value = [] })) in
    let h : IsRecord Warden f = ((omega arith, (omega arith, omega arith)), refl) in
    strict Warden [] f (encode f) h refl (record_some Warden f h)
front_of_nothing Office =
    let h : IsRecord Office (Ended 0 0) = ((omega arith, omega arith), refl) in
    strict Office [] (Ended 0 0) (encode (Ended 0 0)) h refl (record_some Office (Ended 0 0) h)

-- what the code tests, behind a kind that it knows
module _ (r : Role) (k : Kind) (bs body : List ℕ) (e : bs ≡ number_of k ∷ body) where
  pub not_held : holds r k ≡ false → StrictFront r bs → ⊥
  not_held h s = false≢true (sym h ∙ (late r k body (subst (StrictFront r) e s)).0)

  pub decides_early : holds r k ≡ true → Small body → Decides (ends_early_lem k body) (StrictFront r bs)
  decides_early h b = (λ t. subst (StrictFront r) (sym e) (early_front r k body h b t), λ s. (late r k body (subst (StrictFront r) e s)).1)
