-- What stands behind the last whole record of a file.
-- Assumes nothing.
use Rattle.std.proofs.Common.{◌≡◌, ℕ, ◌-◌, ◌≤◌, Bool, true, false, List, ◌++◌, length, take, drop, MatchBool, sym, ap, subst, arith, length-append, length-take}
use Rattle.std.proofs.lemmas.List.{take_all}
use Rattle.frames.specs.Format.{Frame, encode}
use Rattle.frames.specs.Journal.{encode_all, Records, NoRecord, StrictFront}
use Rattle.frames.specs.declared.role.Role.{Role}
use Rattle.frames.proofs.Records.{record_long}
use Rattle.journal.specs.Openings.{Found}
use Rattle.journal.specs.declared.opening.Opening.{Opening}

-- a window shows whether it is a strict front
front_short : (r : Role) (bs : List ℕ) → StrictFront r bs → length bs ≤ 78
front_short r bs (f, k, is, less, same) = omega (arith, record_long r f is, ap length same, length-take k (encode f))

pub seen : (r : Role) (bs : List ℕ) → StrictFront r bs → StrictFront r (take 65536 bs)
seen r bs h = subst (λ (x : List ℕ). StrictFront r x) (sym (take_all 65536 bs (omega (arith, front_short r bs h)))) h

pub shown : (r : Role) (bs : List ℕ) → StrictFront r (take 65536 bs) → StrictFront r bs
shown r bs h = subst (λ (x : List ℕ). StrictFront r x) (take_all 65536 bs (omega (arith, front_short r (take 65536 bs) h, length-take 65536 bs))) h

told : (damaged : Bool) (r : Role) (bs : List ℕ) → MatchBool damaged (StrictFront r (take 65536 bs) → ⊥) (StrictFront r (take 65536 bs)) → MatchBool damaged (StrictFront r bs → ⊥) (StrictFront r bs)
told true r bs h = λ front. h (seen r bs front)
told false r bs h = shown r bs h

pub found : (r : Role) (bs window : List ℕ) (fs : List Frame) (n : ℕ) (o : Opening) → Records r fs → n ≡ length (encode_all fs) → bs ≡ encode_all fs ++ drop n bs → NoRecord r (drop n bs) → o.cut ≡ length bs - n → window ≡ take 65536 (drop n bs) → MatchBool o.damaged (StrictFront r window → ⊥) (StrictFront r window) → Found r bs fs o
found r bs window fs n o records size front ends cut is damaged =
    record {
      rest = drop n bs;
      splits = record { whole = front; records = records; ends = ends };
      cut = omega (arith, cut, size, ap length front, length-append (encode_all fs) (drop n bs));
      damaged = told o.damaged r (drop n bs) (subst (λ (w : List ℕ). MatchBool o.damaged (StrictFront r w → ⊥) (StrictFront r w)) is damaged);
    }
