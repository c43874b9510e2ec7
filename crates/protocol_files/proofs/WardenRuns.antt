-- A run without files goes on with what a warden takes, and with all that came to it.
-- Assumes nothing.
use Rattle.std.proofs.Common.{◌≡◌, ℕ, ◌<◌, Bool, false, List, [], ◌∷◌, ◌++◌, sym, refl, ap, ◌∙◌, subst, ⊎_elim}
use mathlib.Core.List.Memᴰ
use mathlib.Core.List.{Memᴰ}
use Rattle.std.proofs.lemmas.Bool.{cond-false}
use Rattle.register.specs.Count.{put}
use Rattle.register.specs.Note.{Note}
use Rattle.register.proofs.Put.{put_same, put_twice}
use Rattle.protocol.specs.Message.{office, Message, Take, Packet, packets}
use Rattle.protocol.specs.Step.{Outcome, Done, Refused, Step}
use Rattle.protocol.specs.Warden.{WardenDone, taken, answered}
use Rattle.protocol.specs.Reader.{Reader}
use Rattle.protocol.specs.Log.{Log}
use Rattle.protocol.specs.System.{warden_event}
use Rattle.protocol_tables.specs.Keep.{Keep}
use Rattle.protocol_tables.specs.Warden.{takes, warden_keeps}
use Rattle.protocol_tables.specs.Office.{Office}
use Rattle.protocol_tables.specs.System.{Run, then, warden_hear}
use Rattle.protocol_tables.proofs.Within.{Within}
use Rattle.frames.specs.Format.{Frame, Sent}
use Rattle.protocol_files.specs.Records.{warden_records, warden_replays, warden_replays_all, took_by, took_all}
use Rattle.protocol_files.proofs.Takes.{Heard, took, other, heard, Taken, taken_more}
use Rattle.protocol_files.proofs.WardenFiles.{Batch, nothing, hear}

took_all-++ : (i : ℕ) (fs gs : List Frame) (l : Log) → took_all i (fs ++ gs) l ≡ took_all i gs (took_all i fs l)
took_all-++ i [] gs l = refl
took_all-++ i (f ∷ fs) gs l = took_all-++ i fs gs (took_by i f ++ l)

pub took_grows : (i : ℕ) (fs : List Frame) (l : Log) → Within l (took_all i fs l)
took_grows i [] l x at = at
took_grows i (f ∷ fs) l x at = took_grows i fs (took_by i f ++ l) x (Memᴰ.append_right (took_by i f) at)

-- what is seen of a step is what is seen of the records that it leaves
pub seen_by : (i k : ℕ) (out : Outcome WardenDone) (x : Note) → takes out ≡ false → warden_event i k x out ≡ []
seen_by i k (Done taken) x no_take = cc
seen_by i k (Done answered) x no_take = refl
seen_by i k (Refused m) x no_take = refl

seen : (i : ℕ) {d : Keep Note} {from k : ℕ} {m : Message} {o : Step (Keep Note) WardenDone} (l : Log) → Heard d from k m o → warden_event i k (o.next.at k) o.outcome ++ l ≡ took_all i (warden_records k o) l
seen i l (took x sent late roomy) = refl
seen i {d} {k = k} l (other sends out no_take tells) =
    ap (λ (xs : Log). xs ++ l) (seen_by i k out (d.at k) no_take) ∙ ap (λ (fs : List Frame). took_all i fs l) (sym (cond-false (takes out) (Sent k (Take (d.at k)) ∷ []) [] no_take))

module _ (n f : ℕ) (liar : ℕ → Bool) (o : Office) (w : ℕ → Keep Note) (r : ℕ → Reader) (i : ℕ) (below : i < n) (own : liar i ≡ false) where
  -- the warden i has d
  abbrev pub WardenAt : Keep Note → List Packet → Log → Type 0
  WardenAt d b l = Run n f liar (record { office = o; warden = put i d w; reader = r; bag = b; log = l })

  -- a packet comes to it
  hears : (d : Keep Note) (b : List Packet) (l : Log) (from k : ℕ) (m : Message) → Memᴰ (record { from = from; to = i; note = k; message = m }) b → WardenAt d b l →
      WardenAt (warden_keeps d from k m).next (packets n i k (warden_keeps d from k m).sends ++ b) (took_all i (warden_records k (warden_keeps d from k m)) l)
  hears d b l from k m at run =
      subst (λ (l : Log). WardenAt st.next (packets n i k st.sends ++ b) l) (seen i l (heard d from k m))
      (subst (λ (c : ℕ → Keep Note). Run n f liar (record { office = o; warden = c; reader = r; bag = packets n i k st.sends ++ b; log = warden_event i k (st.next.at k) st.outcome ++ l })) (put_twice i st.next d w)
      (subst (λ (c : Keep Note). Run n f liar (record { office = o; warden = put i (warden_keeps c from k m).next (put i d w); reader = r; bag = packets n i k (warden_keeps c from k m).sends ++ b; log = warden_event i k ((warden_keeps c from k m).next.at k) (warden_keeps c from k m).outcome ++ l })) (put_same i d w)
      (then run (warden_hear i (record { from = from; to = i; note = k; message = m }) below own at refl))))
    where
      st : Step (Keep Note) WardenDone
      st = warden_keeps d from k m

  -- with more on its way than b
  abbrev pub Reached : List Packet → Keep Note → Log → Type 0
  Reached b d l = (more : List Packet) × Within b more × WardenAt d more l

  pub takes_all : (fs : List Frame) (d : Keep Note) (b : List Packet) (l : Log) → Taken i b d fs → WardenAt d b l → Reached b (warden_replays_all d fs) (took_all i fs l)
  takes_all [] d b l a run = (b, λ p at. at, run)
  takes_all (g ∷ fs) d b l (t, a) run =
      let (more, within, end) = takes_all fs (warden_replays d g) b' (took_by i g ++ l) (taken_more i b (λ p at. Memᴰ.append_right ps at) (warden_replays d g) fs a) one in
      (more, λ p at. within p (Memᴰ.append_right ps at), end)
    where
      ps : List Packet
      ps = packets n i t.about (warden_keeps d office t.about (Take t.text)).sends

      b' : List Packet
      b' = ps ++ b

      log_is : took_all i (warden_records t.about (warden_keeps d office t.about (Take t.text))) l ≡ took_by i g ++ l
      log_is =
          ap (λ (st : Step (Keep Note) WardenDone). took_all i (warden_records t.about st) l) t.step
          ∙ ap (λ (y : Note). took_all i (Sent t.about (Take y) ∷ []) l) (put_same t.about t.text d.at)
          ∙ ap (λ (c : Frame). took_by i c ++ l) (sym t.is)

      one : WardenAt (warden_replays d g) b' (took_by i g ++ l)
      one =
          subst (λ (l : Log). WardenAt (warden_replays d g) b' l) log_is
          (subst (λ (c : Frame). WardenAt (warden_replays d c) b' (took_all i (warden_records t.about (warden_keeps d office t.about (Take t.text))) l)) (sym t.is)
          (hears d b l office t.about (Take t.text) t.sent run))

  -- and what it answers is on its way
  abbrev pub Answered : (b outbox : List Packet) → Keep Note → Log → Type 0
  Answered b outbox d l = (more : List Packet) × Within b more × Within outbox more × WardenAt d more l

  pub hears_all : {bag : List Packet} {d notes : Keep Note} {records : List Frame} {outbox : List Packet} → Batch n i bag d notes records outbox → (b : List Packet) (l : Log) → Within bag b → WardenAt d b l → Answered b outbox notes (took_all i records l)
  hears_all nothing b l within run = (b, λ p at. at, λ p at. absurd (Memᴰ.not-nil at), run)
  hears_all {bag} (hear {notes = notes} {records = records} {outbox = outbox} before p m to) b l within run =
      let (more, grown, sent, end) = hears_all before b l within run in
      let ps = packets n i p.note (warden_keeps notes p.from p.note p.message).sends in (
        ps ++ more,
        λ q at. Memᴰ.append_right ps (grown q at),
        λ q at. ⊎_elim (λ at. Memᴰ.append_right ps (sent q at)) (λ at. Memᴰ.append_left more at) (Memᴰ.append_cases outbox at),
        subst (λ (l : Log). WardenAt (warden_keeps notes p.from p.note p.message).next (ps ++ more) l) (sym (took_all-++ i records (warden_records p.note (warden_keeps notes p.from p.note p.message)) l))
            (hears notes more (took_all i records l) p.from p.note p.message (subst (λ (c : ℕ). Memᴰ (record { from = p.from; to = c; note = p.note; message = p.message }) more) to (grown p (within p m))) end),
      )
