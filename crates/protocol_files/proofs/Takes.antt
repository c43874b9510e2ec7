-- Records that a warden takes, one after the other, each sent by the office.
-- Assumes nothing.
use Rattle.std.proofs.Common.{◌≡◌, ℕ, zero, suc, ◌<◌, true, false, ◌⊎◌, List, [], ◌∷◌, ◌++◌, take, refl, ap, ◌∙◌, inl, inr, ⊎_elim, arith}
use mathlib.Core.List.{Memᴰ}
use Rattle.register.specs.Note.{Note}
use Rattle.register.proofs.Put.{put_at}
use Rattle.protocol.specs.Message.{office, Message, Take, Took, Ask, Told, Packet, Sends, One, Each}
use Rattle.protocol.specs.Message as words
use Rattle.protocol.specs.Step.{Outcome, Done, Refused, Step}
use Rattle.protocol.specs.Warden.{WardenDone, answered}
use Rattle.protocol_tables.specs.Keep.{Keep, room, store}
use Rattle.protocol_tables.specs.Warden.{takes, warden_keeps}
use Rattle.protocol_tables.proofs.Within.{Within}
use Rattle.protocol_tables.proofs.TableCases.{took_step, KeepCase, keep_takes, keep_full, keep_had, keep_answers, keep_passes, keep_case}
use Rattle.frames.specs.Format.{Frame, Sent, Fits}
use Rattle.frames.specs.Journal.{Records}
use Rattle.frames.specs.declared.role.Role.TheVariants as roles
use Rattle.protocol_files.specs.Records.{warden_replays, warden_replays_all}

-- WHAT A WARDEN DOES WITH A MESSAGE: it takes a note, or it has what it had
-- of what it has of k, it tells nothing else
abbrev pub Tells : Keep Note → (k : ℕ) → Sends → Type 0
Tells d k words.Nothing = Unit {0}
Tells d k (One to m) = (r : ℕ) (x : Note) → m ≡ Told r x → x ≡ d.at k
Tells d k (Each m) = ⊥

took_tells : (d : Keep Note) (k e r : ℕ) (x : Note) → Took e ≡ Told r x → x ≡ d.at k
took_tells d k e r x is = cc

pub data Heard (d : Keep Note) (from k : ℕ) : Message → Step (Keep Note) WardenDone → Type 0 where
  took : (x : Note) → from ≡ office → (d.at k).edition < x.edition → room k d ≡ true → Heard d from k (Take x) (took_step k x d)
  other : {m : Message} (sends : Sends) (out : Outcome WardenDone) → takes out ≡ false → Tells d k sends → Heard d from k m (record { next = d; sends = sends; outcome = out })

pub heard : (d : Keep Note) (from k : ℕ) (m : Message) → Heard d from k m (warden_keeps d from k m)
heard d from k m = go (keep_case d from k m)
  where
    go : {m : Message} {o : Step (Keep Note) WardenDone} → KeepCase d from k m o → Heard d from k m o
    go (keep_takes x own late roomy) = took x own late roomy
    go (keep_full x own full) = other words.Nothing (Refused 6) refl tt
    go (keep_had x) = other (One office (Took x.edition)) (Refused 2) refl (took_tells d k x.edition)
    go (keep_answers r) = other (One from (Told r (d.at k))) (Done answered) refl (λ r' x is. cc)
    go keep_passes = other words.Nothing (Refused 1) refl tt

-- f is what the office sent to i, and i takes it
pub record Taking (i : ℕ) (bag : List Packet) (d : Keep Note) (f : Frame) : Type 0 where
  pub about : ℕ
  pub text : Note
  pub is : f ≡ Sent about (Take text)
  pub fits : Fits (Sent about (Take text))
  pub sent : Memᴰ (record { from = office; to = i; note = about; message = Take text }) bag
  pub late : (d.at about).edition < text.edition
  pub step : warden_keeps d office about (Take text) ≡ took_step about text d

abbrev pub Taken : (i : ℕ) (bag : List Packet) → Keep Note → List Frame → Type 0
Taken i bag d [] = Unit {0}
Taken i bag d (f ∷ fs) = Taking i bag d f × Taken i bag (warden_replays d f) fs

pub replays-++ : (d : Keep Note) (fs gs : List Frame) → warden_replays_all d (fs ++ gs) ≡ warden_replays_all (warden_replays_all d fs) gs
replays-++ d [] gs = refl
replays-++ d (f ∷ fs) gs = replays-++ (warden_replays d f) fs gs

-- it has the note of the record
pub replays_taking : {i : ℕ} {bag : List Packet} {d : Keep Note} {f : Frame} (t : Taking i bag d f) → warden_replays d f ≡ store t.about t.text d
replays_taking {d = d} t = ap (warden_replays d) t.is ∙ ap (λ (o : Step (Keep Note) WardenDone). o.next) t.step

module _ (i : ℕ) (bag : List Packet) where
  pub taken-++ : (d : Keep Note) (fs gs : List Frame) → Taken i bag d fs → Taken i bag (warden_replays_all d fs) gs → Taken i bag d (fs ++ gs)
  taken-++ d [] gs a b = b
  taken-++ d (f ∷ fs) gs (one, a) b = (one, taken-++ (warden_replays d f) fs gs a b)

  pub taken_take : (m : ℕ) (d : Keep Note) (fs : List Frame) → Taken i bag d fs → Taken i bag d (take m fs)
  taken_take zero d fs a = tt
  taken_take (suc m) d [] a = tt
  taken_take (suc m) d (f ∷ fs) (one, a) = (one, taken_take m (warden_replays d f) fs a)

  pub taken_more : {more : List Packet} → Within bag more → (d : Keep Note) (fs : List Frame) → Taken i bag d fs → Taken i more d fs
  taken_more within d [] a = tt
  taken_more within d (f ∷ fs) (t, a) =
      (record { about = t.about; text = t.text; is = t.is; fits = t.fits; sent = within (record { from = office; to = i; note = t.about; message = Take t.text }) t.sent; late = t.late; step = t.step }, taken_more within (warden_replays d f) fs a)

  pub taken_records : (d : Keep Note) (fs : List Frame) → Taken i bag d fs → Records roles.Warden fs
  taken_records d [] a = tt
  taken_records d (f ∷ fs) (t, a) = (rw t.is (t.fits, refl), taken_records (warden_replays d f) fs a)

  -- of each note it has in the end what it had, or a later edition that was sent
  pub taken_later : (d : Keep Note) (fs : List Frame) (k : ℕ) → Taken i bag d fs →
      ((warden_replays_all d fs).at k ≡ d.at k) ⊎ (((d.at k).edition < ((warden_replays_all d fs).at k).edition) × Memᴰ (record { from = office; to = i; note = k; message = Take ((warden_replays_all d fs).at k) }) bag)
  taken_later d [] k a = inl refl
  taken_later d (f ∷ fs) k (t, a) =
      ⊎_elim
      (λ (same : (warden_replays_all (warden_replays d f) fs).at k ≡ (warden_replays d f).at k). rw same one_step)
      (λ (late, sent). ⊎_elim (λ (is : (warden_replays d f).at k ≡ d.at k). inr (rw (← is) late, sent)) (λ older. let up = older.0 in inr (omega arith, sent)) one_step)
      (taken_later (warden_replays d f) fs k a)
    where
      Later : Note → Type 0
      Later y = (y ≡ d.at k) ⊎ (((d.at k).edition < y.edition) × Memᴰ (record { from = office; to = i; note = k; message = Take y }) bag)

      first : Later ((store t.about t.text d).at k)
      first = put_at Later k t.about t.text d.at (λ is. rw is (inr (t.late, t.sent))) (λ _. inl refl)

      one_step : Later ((warden_replays d f).at k)
      one_step = rw (replays_taking t) first
