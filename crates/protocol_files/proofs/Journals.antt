-- Files of records: what is found on a file of which a part of the end is lost.
-- Assumes nothing.
use Rattle.std.proofs.Common.{◌≡◌, ℕ, List, [], ◌∷◌, ◌++◌, take, sym, refl, ap, ◌∙◌, subst, append_assoc, append-nil, ⊎_elim, arith}
use Rattle.std.proofs.lemmas.List.{append_cancel_left, length-take, take-take, take_all}
use Rattle.std.proofs.lemmas.Bool.{cases_lt}
use Rattle.frames.specs.Format.{Frame, encode}
use Rattle.frames.specs.Journal.{Records, encode_all, NoRecord, Splits}
use Rattle.frames.specs.declared.role.Role.{Role}
use Rattle.frames.proofs.Frames.{unique}
use Rattle.frames.proofs.Records.{encode_all-++, records_parts}
use Rattle.frames.proofs.Files.{none_in_nothing, once, cut, splits_more}
use Rattle.protocol_files.specs.Disk.{File, contents, keep}
use Rattle.protocol_files.specs.System.{Found}

pub all_of_it : (r : Role) (fs : List Frame) → Records r fs → Splits r (encode_all fs) fs []
all_of_it r fs so = record { whole = sym (append-nil (encode_all fs)); records = so; ends = none_in_nothing r }

-- a front of a front is a front
take_less : {A : Type 0} (k j : ℕ) (xs : List A) → (i : ℕ) × (take k (take j xs) ≡ take i xs)
take_less k j xs = ⊎_elim (λ below. (k, take-take k j xs (omega arith))) (λ above. (j, take_all k (take j xs) (omega (arith, length-take j xs)))) (cases_lt k j)

-- the records ss are synced on the file, and of ps, which were written after them, the first bytes stand there
pub record Has (r : Role) (g : File) (ss ps : List Frame) : Type 0 where
  pub sure : g.synced ≡ encode_all ss
  pub records : Records r ss
  pub more : Records r ps
  pub bytes : ℕ
  pub torn : g.pending ≡ take bytes (encode_all ps)

-- nothing is pending
pub sure_only : {r : Role} {g : File} (ss : List Frame) → g.synced ≡ encode_all ss → Records r ss → g.pending ≡ [] → Has r g ss []
sure_only ss sure records none = record { sure = sure; records = records; more = tt; bytes = 0; torn = none }

-- still fewer bytes are left
pub keeps : {r : Role} {g : File} {ss ps : List Frame} (k : ℕ) → Has r g ss ps → Has r (keep k g) ss ps
keeps {ps = ps} k h = let (i, is) = take_less k h.bytes (encode_all ps) in record { sure = h.sure; records = h.records; more = h.more; bytes = i; torn = ap (take k) h.torn ∙ is }

-- records are known from their bytes
pub known : (r : Role) (fs gs : List Frame) → Records r fs → Records r gs → encode_all fs ≡ encode_all gs → fs ≡ gs
known r fs gs a b same = (once r (encode_all fs) fs gs [] [] (all_of_it r fs a) (subst (λ bs. Splits r bs gs []) (sym same) (all_of_it r gs b))).0

-- what is found is what was synced, and some first ones of those that were written after it
pub finds : {r : Role} {g : File} {ss ps fs gs : List Frame} {rest : List ℕ} → Has r g ss ps → Found r g fs gs rest → (m : ℕ) × (fs ≡ ss) × (gs ≡ take m ps)
finds {r} {g} {ss} {ps} {fs} {gs} {rest} h found =
    let same : fs ≡ ss = known r fs ss (records_parts r fs gs found.splits.records).0 h.records (sym found.sure ∙ h.sure) in
    let whole : g.synced ++ g.pending ≡ g.synced ++ (encode_all gs ++ rest) = found.splits.whole ∙ ap (λ bs. bs ++ rest) (encode_all-++ fs gs) ∙ append_assoc (encode_all fs) (encode_all gs) rest ∙ ap (λ bs. bs ++ (encode_all gs ++ rest)) (sym found.sure) in
    let tail : take h.bytes (encode_all ps) ≡ encode_all gs ++ rest = sym h.torn ∙ append_cancel_left g.synced g.pending (encode_all gs ++ rest) whole in
    let (m, left, splits, _) = cut r ps h.bytes h.more in
    (m, same, (once r (take h.bytes (encode_all ps)) gs (take m ps) rest left (record { whole = tail; records = (records_parts r fs gs found.splits.records).1; ends = found.splits.ends }) splits).0)

-- bytes begin with records ss: those are the first of all records that stand there
pub leads : (r : Role) (ss fs : List Frame) (p rest : List ℕ) → Records r ss → Records r fs → NoRecord r rest → encode_all ss ++ p ≡ encode_all fs ++ rest → (gs : List Frame) × (fs ≡ ss ++ gs)
leads r [] fs p rest is rs ends same = (fs, refl)
leads r (s ∷ ss) [] p rest (is, more) rs ends same = absurd (ends s (encode_all ss ++ p) is (sym same ∙ append_assoc (encode s) (encode_all ss) p))
leads r (s ∷ ss) (f ∷ fs) p rest (is, more) (fits, rs) ends same =
    let (one, others) = unique s f (encode_all ss ++ p) (encode_all fs ++ rest) is.0 fits.0 (sym (append_assoc (encode s) (encode_all ss) p) ∙ same ∙ append_assoc (encode f) (encode_all fs) rest) in
    let (gs, split) = leads r ss fs p rest more rs ends others in
    (gs, ap (λ (l : List Frame). f ∷ l) split ∙ ap (λ (x : Frame). x ∷ (ss ++ gs)) (sym one))

-- what is found on a file begins with what is synced
pub found_in : {r : Role} {g : File} {fs : List Frame} {rest : List ℕ} (ss : List Frame) → g.synced ≡ encode_all ss → Records r ss → Splits r (contents g) fs rest → (ps : List Frame) × (fs ≡ ss ++ ps) × Found r g ss ps rest
found_in {r} {g} {fs} {rest} ss sure records splits =
    let (ps, is) = leads r ss fs g.pending rest records splits.records splits.ends (ap (λ bs. bs ++ g.pending) (sym sure) ∙ splits.whole) in
    (ps, is, record { sure = sure; splits = subst (λ (gs : List Frame). Splits r (contents g) gs rest) is splits })

-- on a file on which these records are synced, and nothing is pending, they are found
pub found_all : (r : Role) (fs : List Frame) → Records r fs → Found r (record { synced = encode_all fs; pending = [] }) fs [] []
found_all r fs records =
    record { sure = refl; splits = subst (λ (bs : List ℕ). Splits r bs (fs ++ []) []) (sym (append-nil (encode_all fs))) (subst (λ (gs : List Frame). Splits r (encode_all fs) gs []) (sym (append-nil fs)) (all_of_it r fs records)) }

-- whatever is left of a file, some records are found on it
pub finds_some : {r : Role} {g : File} {ss ps : List Frame} → Has r g ss ps → (qs : List Frame) × (rest : List ℕ) × Found r g ss qs rest
finds_some {r} {g} {ss} {ps} h =
    let (m, rest, splits, _) = cut r ps h.bytes h.more in
    (take m ps, rest, record { sure = h.sure; splits = subst (λ (bs : List ℕ). Splits r (bs ++ g.pending) (ss ++ take m ps) rest) (sym h.sure) (subst (λ (bs : List ℕ). Splits r (encode_all ss ++ bs) (ss ++ take m ps) rest) (sym h.torn) (splits_more r ss (take m ps) (take h.bytes (encode_all ps)) rest h.records splits)) })
