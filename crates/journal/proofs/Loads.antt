-- One window more of a file.
-- Assumes nothing.
use Rattle.std.proofs.Common.{◌≡◌, ℕ, ◌+◌, List, [], ◌∷◌, ◌++◌, length, take, drop, sym, refl, ap, ◌∙◌, subst, append_assoc, append-nil, arith, lit≤, length-append, take-append-drop}
use Rattle.std.proofs.lemmas.List.{drop_at}
use Rattle.frames.specs.Format.{Frame}
use Rattle.frames.specs.Journal.{encode_all, NoRecord}
use Rattle.frames.specs.declared.role.Role.{Role}
use Rattle.frames.proofs.Records.{encode_all-++, records-++, long_enough}
use Rattle.protocol_files.specs.Disk.{Disk, contents}
use Rattle.journal.specs.Replays.{Replayed, none, more, Scanned, ScannedAll, Loading, Loads}

module _ {X : Type 0} (R : X → Frame → X → Type 0) where
  pub joined : {x y z : X} {fs gs : List Frame} → Replayed R x fs y → Replayed R y gs z → Replayed R x (fs ++ gs) z
  joined {x} {y} {fs = fs} first none = subst (λ (l : List Frame). Replayed R x l y) (sym (append-nil fs)) first
  joined {x} {z = z} {fs = fs} first (more {fs = gs} rest f step) = subst (λ (l : List Frame). Replayed R x l z) (append_assoc fs gs (f ∷ [])) (more (joined first rest) f step)

  module _ (role : Role) (P : Disk → Type 0) where
    pub begin : (x : X) → Loading R role P 0 x x
    begin x = record { frames = []; replayed = none; records = tt; size = refl; front = λ d h. refl }

    -- bs begins with the bytes of fs; behind them a window begins with those of gs
    next : (bs window : List ℕ) (n m : ℕ) (fs gs : List Frame) → bs ≡ encode_all fs ++ drop n bs → window ≡ take 65536 (drop n bs) → window ≡ encode_all gs ++ drop m window → n + m ≡ length (encode_all (fs ++ gs)) → bs ≡ encode_all (fs ++ gs) ++ drop (n + m) bs
    next bs window n m fs gs front is begins size =
        let rest = drop 65536 (drop n bs) in
        let split : drop n bs ≡ encode_all gs ++ (drop m window ++ rest) =
        sym (take-append-drop 65536 (drop n bs)) ∙ ap (λ (w : List ℕ). w ++ rest) (sym is ∙ begins) ∙ append_assoc (encode_all gs) (drop m window) rest in
        let whole : bs ≡ encode_all (fs ++ gs) ++ (drop m window ++ rest) =
        front ∙ ap (λ (r : List ℕ). encode_all fs ++ r) split ∙ sym (append_assoc (encode_all fs) (encode_all gs) (drop m window ++ rest)) ∙ ap (λ (a : List ℕ). a ++ (drop m window ++ rest)) (sym (encode_all-++ fs gs)) in
        whole ∙ ap (λ (r : List ℕ). encode_all (fs ++ gs) ++ r) (sym (ap (drop (n + m)) whole ∙ drop_at (encode_all (fs ++ gs)) (drop m window ++ rest) (n + m) (sym size)))

    pub onward : (n m : ℕ) (x y z : X) (window : List ℕ) → Loading R role P n x y → ((d : Disk) → P d → window ≡ take 65536 (drop n (contents d.file))) → Scanned R role window m y z → Loading R role P (n + m) x z
    onward n m x y z window l is s =
        let size : n + m ≡ length (encode_all (l.frames ++ s.frames)) = omega (arith, l.size, s.size, ap length (encode_all-++ l.frames s.frames), length-append (encode_all l.frames) (encode_all s.frames)) in
        record {
          frames = l.frames ++ s.frames;
          replayed = joined l.replayed s.replayed;
          records = records-++ role l.frames s.frames l.records s.records;
          size = size;
          front = λ d h. next (contents d.file) window n m l.frames s.frames (l.front d h) (is d h) s.front size;
        }

    pub ended : (n : ℕ) (x y z : X) (window : List ℕ) → Loading R role P n x y → ((d : Disk) → P d → window ≡ take 65536 (drop n (contents d.file))) → ScannedAll R role window 0 y z → Loads R role P n x z window
    ended n x y z window l is s =
        record {
          loading = subst (λ (k : ℕ). Loading R role P k x z) (omega arith) (onward n 0 x y z window l is s.scanned);
          ends = λ d h. long_enough role (drop n (contents d.file)) 65536 (lit≤ tt) (subst (λ (w : List ℕ). NoRecord role w) (is d h) s.ends);
          rest = is;
        }
