-- Records: how long their bytes are; and the bytes of many.
-- Assumes nothing.
use Rattle.std.proofs.Common.{◌≡◌, ℕ, zero, suc, ◌+◌, ◌-◌, ◌<◌, ◌≤◌, List, [], ◌∷◌, ◌++◌, length, take, sym, refl, ap, ◌∙◌, append_assoc, append-nil, arith}
use lib.Seq.{take-append-add}
use Rattle.std.proofs.lemmas.Bool.{false≢true}
use Rattle.protocol.specs.Message.{Take, Took, Ask, Told}
use Rattle.frames.specs.Format.{Frame, Sent, Begun, Ended, tail, encode}
use Rattle.frames.specs.Journal.{IsRecord, Records, encode_all, NoRecord}
use Rattle.frames.specs.declared.role.Role.{Role}
use Rattle.frames.specs.declared.role.Role.TheVariants.{Warden, Office}
use Rattle.frames.proofs.Frames.{length_encode}

tail_long : (r : Role) (f : Frame) → IsRecord r f → length (tail f) ≤ 65
tail_long Warden (Sent k (Take x)) h = omega (arith, h.0.1.1)
tail_long Warden (Sent k (Took e)) h = absurd (false≢true h.1)
tail_long Warden (Sent k (Ask n)) h = absurd (false≢true h.1)
tail_long Warden (Sent k (Told n x)) h = absurd (false≢true h.1)
tail_long Warden (Begun k x) h = absurd (false≢true h.1)
tail_long Warden (Ended k e) h = absurd (false≢true h.1)
tail_long Office (Sent k m) h = absurd (false≢true h.1)
tail_long Office (Begun k x) h = omega (arith, h.0.1.1)
tail_long Office (Ended k e) h = omega arith

-- no record is longer than this
pub record_long : (r : Role) (f : Frame) → IsRecord r f → length (encode f) ≤ 78
record_long r f h = omega (arith, length_encode f, tail_long r f h)

pub record_some : (r : Role) (f : Frame) → IsRecord r f → 0 < length (encode f)
record_some r f h = omega (arith, length_encode f)

-- if none stands at the front of so many bytes, then none at the front of more
pub long_enough : (r : Role) (bs : List ℕ) (n : ℕ) → 78 ≤ n → NoRecord r (take n bs) → NoRecord r bs
long_enough r bs n l none f more h e =
    let long = record_long r f h in
    let at : n ≡ length (encode f) + (n - length (encode f)) = omega arith in
    none f (take (n - length (encode f)) more) h
    (ap (take n) e ∙ ap (λ k. take k (encode f ++ more)) at ∙ take-append-add (encode f) more (n - length (encode f)))

pub encode_all-++ : (fs gs : List Frame) → encode_all (fs ++ gs) ≡ encode_all fs ++ encode_all gs
encode_all-++ [] gs = refl
encode_all-++ (f ∷ fs) gs = ap (λ l. encode f ++ l) (encode_all-++ fs gs) ∙ sym (append_assoc (encode f) (encode_all fs) (encode_all gs))

pub records-++ : (r : Role) (fs gs : List Frame) → Records r fs → Records r gs → Records r (fs ++ gs)
records-++ r [] gs p q = q
records-++ r (f ∷ fs) gs p q = (p.0, records-++ r fs gs p.1 q)

pub records_parts : (r : Role) (fs gs : List Frame) → Records r (fs ++ gs) → Records r fs × Records r gs
records_parts r [] gs p = (tt, p)
records_parts r (f ∷ fs) gs p = let q = records_parts r fs gs p.1 in ((p.0, q.0), q.1)

pub records_take : (r : Role) (m : ℕ) (fs : List Frame) → Records r fs → Records r (take m fs)
records_take r zero fs p = tt
records_take r (suc m) [] p = tt
records_take r (suc m) (f ∷ fs) p = (p.0, records_take r m fs p.1)

-- a loop over a file passes one record more
pub records_push : (r : Role) (fs : List Frame) (f : Frame) → Records r fs → IsRecord r f → Records r (fs ++ f ∷ [])
records_push r fs f p h = records-++ r fs (f ∷ []) p (h, tt)

pub bytes_push : {bs rest : List ℕ} (fs : List Frame) (f : Frame) (more : List ℕ) → bs ≡ encode_all fs ++ rest → rest ≡ encode f ++ more → bs ≡ encode_all (fs ++ f ∷ []) ++ more
bytes_push fs f more e p =
    let one : encode_all (f ∷ []) ≡ encode f = append-nil (encode f) in
    e ∙ ap (λ l. encode_all fs ++ l) p ∙ sym (append_assoc (encode_all fs) (encode f) more) ∙ ap (λ l. (encode_all fs ++ l) ++ more) (sym one) ∙ ap (λ l. l ++ more) (sym (encode_all-++ fs (f ∷ [])))
