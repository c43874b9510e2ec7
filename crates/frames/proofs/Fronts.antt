-- A frame at the front of bytes, cut behind its kind and its two numbers.
-- Assumes nothing.
use Rattle.std.proofs.Common.{◌≡◌, ℕ, ◌<◌, ◌≤◌, Bool, true, false, List, ◌∷◌, ◌++◌, length, Some, None, Option, sym, refl, ap, ◌∙◌, subst, append_assoc, arith, length-append, MatchOption}
use denote.Bor.{Bor}
use Rattle.std.specs.Bool.{then_some}
use Rattle.std.proofs.lemmas.Bool.{both_ways}
use Rattle.protocol.specs.Message.{Take, Took, Ask, Told}
use Rattle.frames.specs.Format.{Frame, Sent, Begun, Ended, be, kind, about, number, valued, tail, encode}
use Rattle.frames.specs.Fronts.{framed, Begins, BeginsRecord, NoFrame, GoesOn, NoTail, NoValue, EndsWith}
use Rattle.frames.specs.Journal.{allowed, NoRecord}
use Rattle.frames.specs.Views.{number_of, holds, kind_of, frame_of}
use Rattle.frames.specs.declared.decode.Front.{Front}
use Rattle.frames.specs.declared.role.Role.{Role}
use Rattle.frames.specs.declared.role.Role.TheVariants.{Warden, Office}
use Rattle.frames.specs.declared.frame.Frame as read
use Rattle.frames.specs.declared.frame.Frame.TheVariants as frames
use Rattle.frames.specs.declared.kind.Kind.{Kind}
use Rattle.frames.specs.declared.kind.Kind.TheVariants as kinds
use Rattle.frames.proofs.Bytes.{length_be, same_rest}
use Rattle.frames.proofs.Frames.{parts, length_encode, unique}

-- the kind of a frame, as the code has it
abbrev pub kind_at : Frame → Kind
kind_at (Sent k (Take x)) = kinds.Take
kind_at (Sent k (Took x)) = kinds.Took
kind_at (Sent k (Ask r)) = kinds.Ask
kind_at (Sent k (Told r x)) = kinds.Told
kind_at (Begun k x) = kinds.Begun
kind_at (Ended k x) = kinds.Ended

pub kind_is : (f : Frame) → kind f ≡ number_of (kind_at f)
kind_is (Sent k (Take x)) = refl
kind_is (Sent k (Took x)) = refl
kind_is (Sent k (Ask r)) = refl
kind_is (Sent k (Told r x)) = refl
kind_is (Begun k x) = refl
kind_is (Ended k x) = refl

-- what may stand on a file goes by the kind
pub allowed_is : (r : Role) (f : Frame) → allowed r f ≡ holds r (kind_at f)
allowed_is Warden (Sent k (Take x)) = refl
allowed_is Warden (Sent k (Took x)) = refl
allowed_is Warden (Sent k (Ask n)) = refl
allowed_is Warden (Sent k (Told n x)) = refl
allowed_is Warden (Begun k x) = refl
allowed_is Warden (Ended k x) = refl
allowed_is Office (Sent k (Take x)) = refl
allowed_is Office (Sent k (Took x)) = refl
allowed_is Office (Sent k (Ask n)) = refl
allowed_is Office (Sent k (Told n x)) = refl
allowed_is Office (Begun k x) = refl
allowed_is Office (Ended k x) = refl

kind_of_is : (x : read.Frame) → kind_at (frame_of x) ≡ kind_of x
kind_of_is (frames.Take n e v) = refl
kind_of_is (frames.Took n e) = refl
kind_of_is (frames.Ask n m) = refl
kind_of_is (frames.Told n m e v) = refl
kind_of_is (frames.Begun n e v) = refl
kind_of_is (frames.Ended n e) = refl

-- no kind, and so no frame
pub no_kind : {bs : List ℕ} → ((k : Kind) (more : List ℕ) → bs ≡ number_of k ∷ more → ⊥) → NoFrame bs
no_kind none f more h e = none (kind_at f) _ (e ∙ parts f more ∙ ap (λ k. framed k (about f) (number f) (tail f ++ more)) (kind_is f))

-- what a frame at the front says of the bytes behind the kind
pub behind : {bs body : List ℕ} {k : ℕ} → bs ≡ k ∷ body → (f : Frame) (more : List ℕ) → bs ≡ encode f ++ more → (kind f ≡ k) × (body ≡ be 4 (about f) ++ (be 8 (number f) ++ (tail f ++ more)))
behind {body = body} {k = k} s f more e =
    let p = parts f more in
    let a : kind f ≡ k = cc in
    let b : body ≡ be 4 (about f) ++ (be 8 (number f) ++ (tail f ++ more)) = cc in
    (a, b)

-- there is no room for the two numbers
pub too_short : {bs body : List ℕ} {k : ℕ} → bs ≡ k ∷ body → length body < 12 → NoFrame bs
too_short s l f more h e =
    omega (arith, ap length (behind s f more e).1, length-append (be 4 (about f)) (be 8 (number f) ++ (tail f ++ more)), length-append (be 8 (number f)) (tail f ++ more), length_be 4 (about f), length_be 8 (number f))

-- no edition and value, and so no told
pub no_told : {bs : List ℕ} → ((n : ℕ) (v more : List ℕ) → length v ≤ 64 → bs ≡ be 8 n ++ (valued v ++ more) → ⊥) → NoTail 4 bs
no_told none (Sent k (Take x)) more h i e = omega arith
no_told none (Sent k (Took x)) more h i e = omega arith
no_told none (Sent k (Ask r)) more h i e = omega arith
no_told none (Sent k (Told r x)) more h i e = none x.edition x.value more h.2.1 (e ∙ append_assoc (be 8 x.edition) (valued x.value) more)
no_told none (Begun k x) more h i e = omega arith
no_told none (Ended k x) more h i e = omega arith

-- no value, and so no take or begun
pub no_take : {bs : List ℕ} → NoValue bs → NoTail 1 bs
no_take none (Sent k (Take x)) more h i e = none x.value more h.1.1 e
no_take none (Sent k (Took x)) more h i e = omega arith
no_take none (Sent k (Ask r)) more h i e = omega arith
no_take none (Sent k (Told r x)) more h i e = omega arith
no_take none (Begun k x) more h i e = omega arith
no_take none (Ended k x) more h i e = omega arith

pub no_begun : {bs : List ℕ} → NoValue bs → NoTail 5 bs
no_begun none (Sent k (Take x)) more h i e = omega arith
no_begun none (Sent k (Took x)) more h i e = omega arith
no_begun none (Sent k (Ask r)) more h i e = omega arith
no_begun none (Sent k (Told r x)) more h i e = omega arith
no_begun none (Begun k x) more h i e = none x.value more h.1.1 e
no_begun none (Ended k x) more h i e = omega arith

-- a frame that a value ends: `make` makes it of the value, which begins where `rest` does
module _ {bs rest : List ℕ} {k n m : ℕ} (make : Bor (List ℕ) → read.Frame) (none : NoValue rest → NoTail k bs) (goes : (v more : Bor (List ℕ)) → length v.now ≤ 64 → rest ≡ valued v.now ++ more.now → GoesOn k n m bs (record { frame = make v; rest = more })) where
  pub with_value : {Made : Bor (List ℕ) → read.Frame → Type 0} → ((v : Bor (List ℕ)) (f : read.Frame) → Made v f → f ≡ make v) → (o : Option Front) → MatchOption o (NoValue rest) (EndsWith Made rest) → MatchOption o (NoTail k bs) (GoesOn k n m bs)
  with_value is None h = none h
  with_value is (Some x) h = subst (λ f. GoesOn k n m bs (record { frame = f; rest = x.rest })) (sym (is h.value x.frame h.is_made)) (goes h.value x.rest h.short h.front)

-- bytes, cut behind a kind and two numbers
pub record Parted (bs : List ℕ) (k n m : ℕ) (rest : List ℕ) : Type 0 where
  pub is : bs ≡ framed k n m rest

pub of_kind : {bs rest : List ℕ} {k l n m : ℕ} → Parted bs k n m rest → k ≡ l → Parted bs l n m rest
of_kind {rest = rest} {n = n} {m = m} p e = record { is = p.is ∙ ap (λ i. framed i n m rest) e }

module _ {bs rest : List ℕ} {k n m : ℕ} (p : Parted bs k n m rest) where
  pub begins : (x : Front) → GoesOn k n m rest x → Begins bs x
  begins x g =
      let f = frame_of x.frame in
      let a = sym g.kinds in
      let b = sym g.abouts in
      let c = sym g.numbers in
      let d = g.tails in
      let front = p.is ∙ (λ i. framed (a i) (b i) (c i) (d i)) ∙ sym (parts f x.rest.now) in
      record {
        fits = g.fits;
        front = front;
        shorter = omega (arith, ap length front, length-append (encode f) x.rest.now, length_encode f);
      }

  no_frame : NoTail k rest → NoFrame bs
  no_frame none f more h e =
      let b = behind p.is f more e in
      none f more h b.0 (same_rest 8 _ _ _ _ (same_rest 4 _ _ _ _ b.1))

  pub whole : (o : Option Front) → MatchOption o (NoTail k rest) (GoesOn k n m rest) → MatchOption o (NoFrame bs) (Begins bs)
  whole None h = no_frame h
  whole (Some x) h = begins x h

-- a frame that may not stand on a file, and so no record
pub no_record : {bs : List ℕ} (r : Role) (x : Front) → Begins bs x → holds r (kind_of x.frame) ≡ false → NoRecord r bs
no_record r x b h f more p e =
    let same = (unique f (frame_of x.frame) more x.rest.now p.0 b.fits (sym e ∙ b.front)).0 in
    both_ways (allowed r f) (allowed_is r f ∙ ap (λ g. holds r (kind_at g)) same ∙ ap (holds r) (kind_of_is x.frame) ∙ h) p.1

-- what a frame at the front is, if records of its kind may stand on the file
record_if : {bs : List ℕ} (r : Role) (x : Front) (held : Bool) → held ≡ holds r (kind_of x.frame) → Begins bs x → MatchOption (then_some held x) (NoRecord r bs) (BeginsRecord r bs)
record_if r x true same b = record { is_record = (b.fits, allowed_is r (frame_of x.frame) ∙ ap (holds r) (kind_of_is x.frame) ∙ sym same); front = b.front; shorter = b.shorter }
record_if r x false same b = no_record r x b (sym same)

pub record_from : (bs : List ℕ) (r : Role) {Says : Front → Bool → Type 0} → ((x : Front) (held : Bool) → Says x held → held ≡ holds r (kind_of x.frame)) → (o p : Option Front) → MatchOption o (NoFrame bs) (Begins bs) → MatchOption o (p ≡ None) (λ x. (held : Bool) × Says x held × (p ≡ then_some held x)) → MatchOption p (NoRecord r bs) (BeginsRecord r bs)
record_from bs r says None p none is = rw is (λ f more h e. none f more h.0 e)
record_from bs r says (Some x) p begun (held, said, is) = rw is (record_if r x held (says x held said) begun)
