-- The bytes of a frame: how many they are, and that a frame is known from them.
-- Assumes nothing.
use Rattle.std.proofs.Common.{◌≡◌, ℕ, ◌+◌, ◌^◌, ◌<◌, ◌≤◌, Bool, true, false, cond, eqb, List, [], ◌∷◌, ◌++◌, length, take, sym, refl, ap, ◌∙◌, append_assoc, arith, length-append}
use Rattle.std.proofs.lemmas.List.{take_at, append_cancel_left}
use Rattle.protocol.specs.Message.{Take, Took, Ask, Told}
use Rattle.frames.specs.Format.{Frame, Sent, Begun, Ended, be, kind, about, number, valued, tail, encode, Fits, Unique, longest}
use Rattle.frames.proofs.Bytes.{length_be, same_front, same_rest, same_number}

-- the parts of a frame, and what follows it
pub parts : (f : Frame) (more : List ℕ) → encode f ++ more ≡ kind f ∷ (be 4 (about f) ++ (be 8 (number f) ++ (tail f ++ more)))
unfolding encode
parts f more = simp append_assoc

pub length_encode : (f : Frame) → length (encode f) ≡ 13 + length (tail f)
unfolding encode
length_encode f =
    omega (arith, length-append (be 4 (about f)) (be 8 (number f) ++ tail f), length-append (be 8 (number f)) (tail f), length_be 4 (about f), length_be 8 (number f))

-- THE REST OF A FRAME BY ITS KIND: an edition or none, a value or none
second : Frame → ℕ
second (Sent k (Take x)) = 0
second (Sent k (Took e)) = 0
second (Sent k (Ask r)) = 0
second (Sent k (Told r x)) = x.edition
second (Begun k x) = 0
second (Ended k e) = 0

value : Frame → List ℕ
value (Sent k (Take x)) = x.value
value (Sent k (Took e)) = []
value (Sent k (Ask r)) = []
value (Sent k (Told r x)) = x.value
value (Begun k x) = x.value
value (Ended k e) = []

abbrev has_second : ℕ → Bool
has_second k = eqb k 4

abbrev has_value : ℕ → Bool
has_value k = cond (eqb k 2) false (cond (eqb k 3) false (cond (eqb k 6) false true))

abbrev tail_by : (b c : Bool) → ℕ → List ℕ → List ℕ
tail_by b c e v = cond b (be 8 e) [] ++ cond c (valued v) []

tail_is : (f : Frame) → tail f ≡ tail_by (has_second (kind f)) (has_value (kind f)) (second f) (value f)
unfolding second value
tail_is (Sent k (Take x)) = refl
tail_is (Sent k (Took e)) = refl
tail_is (Sent k (Ask r)) = refl
tail_is (Sent k (Told r x)) = refl
tail_is (Begun k x) = refl
tail_is (Ended k e) = refl

-- the frame of a kind with these parts
abbrev made : (k n x e : ℕ) → List ℕ → Frame
made k n x e v =
    cond (eqb k 1) (Sent n (Take (record { edition = x; value = v })))
    (cond (eqb k 2) (Sent n (Took x))
    (cond (eqb k 3) (Sent n (Ask x))
    (cond (eqb k 4) (Sent n (Told x (record { edition = e; value = v })))
    (cond (eqb k 5) (Begun n (record { edition = x; value = v })) (Ended n x)))))

is_made : (f : Frame) → f ≡ made (kind f) (about f) (number f) (cond (has_second (kind f)) (second f) 0) (cond (has_value (kind f)) (value f) [])
unfolding second value
is_made (Sent k (Take x)) = refl
is_made (Sent k (Took e)) = refl
is_made (Sent k (Ask r)) = refl
is_made (Sent k (Told r x)) = refl
is_made (Begun k x) = refl
is_made (Ended k e) = refl

about_room : (f : Frame) → Fits f → about f < 256 ^ 4
about_room (Sent k (Take x)) h = h.0
about_room (Sent k (Took e)) h = h.0
about_room (Sent k (Ask r)) h = h.0
about_room (Sent k (Told r x)) h = h.0
about_room (Begun k x) h = h.0
about_room (Ended k e) h = h.0

number_room : (f : Frame) → Fits f → number f < 256 ^ 8
number_room (Sent k (Take x)) h = h.1.0
number_room (Sent k (Took e)) h = h.1
number_room (Sent k (Ask r)) h = h.1
number_room (Sent k (Told r x)) h = h.1
number_room (Begun k x) h = h.1.0
number_room (Ended k e) h = h.1

second_room : (f : Frame) → Fits f → second f < 256 ^ 8
unfolding second
second_room (Sent k (Take x)) h = omega arith
second_room (Sent k (Took e)) h = omega arith
second_room (Sent k (Ask r)) h = omega arith
second_room (Sent k (Told r x)) h = h.2.0
second_room (Begun k x) h = omega arith
second_room (Ended k e) h = omega arith

-- values behind their lengths, before whatever follows
pub same_value : (v w xs ys : List ℕ) → valued v ++ xs ≡ valued w ++ ys → (v ≡ w) × (xs ≡ ys)
same_value v w xs ys e =
    let h : length v ≡ length w = cc in
    let t : v ++ xs ≡ w ++ ys = cc in
    let front : v ≡ w = sym (take_at v xs (length w) h) ∙ ap (take (length w)) t ∙ take_at w ys (length w) refl in
    (front, append_cancel_left w xs ys (sym (ap (λ l. l ++ xs) front) ∙ t))

-- the rests of two frames of one kind, before whatever follows
record Same (b c : Bool) (d e : ℕ) (v w xs ys : List ℕ) : Type 0 where
  seconds : cond b d 0 ≡ cond b e 0
  values : cond c v [] ≡ cond c w []
  follows : xs ≡ ys

same_tail : (b c : Bool) (d e : ℕ) (v w xs ys : List ℕ) → d < 256 ^ 8 → e < 256 ^ 8 → tail_by b c d v ++ xs ≡ tail_by b c e w ++ ys → Same b c d e v w xs ys
same_tail false false d e v w xs ys p q h = record { seconds = refl; values = refl; follows = h }
same_tail false true d e v w xs ys p q h =
    let s = same_value v w xs ys h in record { seconds = refl; values = s.0; follows = s.1 }
same_tail true false d e v w xs ys p q h =
    let t : be 8 d ++ xs ≡ be 8 e ++ ys = sym (append_assoc (be 8 d) [] xs) ∙ h ∙ append_assoc (be 8 e) [] ys in
    record { seconds = same_number 8 d e p q (same_front 8 d e xs ys t); values = refl; follows = same_rest 8 d e xs ys t }
same_tail true true d e v w xs ys p q h =
    let t : be 8 d ++ (valued v ++ xs) ≡ be 8 e ++ (valued w ++ ys) = sym (append_assoc (be 8 d) (valued v) xs) ∙ h ∙ append_assoc (be 8 e) (valued w) ys in
    let s = same_value v w xs ys (same_rest 8 d e _ _ t) in
    record { seconds = same_number 8 d e p q (same_front 8 d e _ _ t); values = s.0; follows = s.1 }

pub unique : Unique
unique f g xs ys p q e =
    let all = sym (parts f xs) ∙ e ∙ parts g ys in
    let kinds : kind f ≡ kind g = cc in
    let t : be 4 (about f) ++ (be 8 (number f) ++ (tail f ++ xs)) ≡ be 4 (about g) ++ (be 8 (number g) ++ (tail g ++ ys)) = cc in
    let u = same_rest 4 (about f) (about g) _ _ t in
    let abouts = same_number 4 _ _ (about_room f p) (about_room g q) (same_front 4 _ _ _ _ t) in
    let numbers = same_number 8 _ _ (number_room f p) (number_room g q) (same_front 8 _ _ _ _ u) in
    let a = tail_is f in
    let b = tail_is g in
    let w = same_rest 8 (number f) (number g) _ _ u in
    let x : tail_by (has_second (kind g)) (has_value (kind g)) (second f) (value f) ++ xs ≡ tail_by (has_second (kind g)) (has_value (kind g)) (second g) (value g) ++ ys = cc in
    let s = same_tail (has_second (kind g)) (has_value (kind g)) (second f) (second g) (value f) (value g) xs ys (second_room f p) (second_room g q) x in
    let seconds = ap (λ k. cond (has_second k) (second f) 0) kinds ∙ s.seconds in
    let values = ap (λ k. cond (has_value k) (value f) []) kinds ∙ s.values in
    (is_made f ∙ (λ i. made (kinds i) (abouts i) (numbers i) (seconds i) (values i)) ∙ sym (is_made g), s.follows)

-- no frame is longer than the longest
pub frame_long : (f : Frame) → Fits f → length (encode f) ≤ longest
frame_long (Sent k (Take x)) h = omega (arith, length_encode (Sent k (Take x)), h.1.1)
frame_long (Sent k (Took e)) h = omega (arith, length_encode (Sent k (Took e)))
frame_long (Sent k (Ask r)) h = omega (arith, length_encode (Sent k (Ask r)))
frame_long (Sent k (Told r x)) h = omega (arith, length_encode (Sent k (Told r x)), h.2.1, length-append (be 8 x.edition) (valued x.value), length_be 8 x.edition)
frame_long (Begun k x) h = omega (arith, length_encode (Begun k x), h.1.1)
frame_long (Ended k e) h = omega (arith, length_encode (Ended k e))
