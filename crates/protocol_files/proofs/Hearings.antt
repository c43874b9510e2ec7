-- A warden at work hears a message, syncs what it writes, and answers.
-- Assumes nothing.
use Rattle.std.proofs.Common.{◌≡◌, ℕ, ◌*◌, ◌<◌, Bool, true, false, ltb, List, ◌++◌, sym, refl, ap, ◌∙◌, subst}
use mathlib.Core.List.Memᴰ
use mathlib.Core.List.{Memᴰ}
use Rattle.std.proofs.lemmas.Bool.{cond_both}
use Rattle.register.specs.Note.{Note}
use Rattle.register.proofs.Put.{put_all, put_same, put_twice}
use Rattle.protocol.specs.Message.{office, Message, Take, Took, Packet, Sends, One, packets}
use Rattle.protocol.specs.Step.{Step, Done, Refused, refuse}
use Rattle.protocol.specs.Warden.{WardenDone, taken}
use Rattle.protocol.specs.Progress.{honest}
use Rattle.protocol_tables.specs.Keep.{Keep, room, store}
use Rattle.protocol_tables.specs.Warden.{keep_note, warden_keeps}
use Rattle.protocol_tables.proofs.Room as R
use Rattle.frames.specs.Format.{Frame}
use Rattle.frames.specs.Journal.{Records, encode_all}
use Rattle.frames.specs.declared.role.Role.TheVariants as roles
use Rattle.protocol_files.specs.Records.{warden_records}
use Rattle.protocol_files.specs.Nodes.{Node, Warden, stepped, flushed}
use Rattle.protocol_files.specs.System.{System, with_warden, warden_flushed, warden_hear, warden_flushes, Run}
use Rattle.protocol_files.specs.Progress.{Way, Onward, Awake}
use Rattle.protocol_files.proofs.Takes.{heard, taken_records}
use Rattle.protocol_files.proofs.WardenFiles.{writes_by}
use Rattle.protocol_files.proofs.WardenRuns.{hears_all}
use Rattle.protocol_files.proofs.WardenMoves.{bag_fits, own_run}
use Rattle.protocol_files.proofs.Refines.{followed}
use Rattle.protocol_files.proofs.WardenGoes.{took_front}
use Rattle.protocol_files.proofs.Ways.{one, by}

-- it says that it took a note, unless it has no room for it
pub took_sent : (d : Keep Note) (k : ℕ) (x : Note) → ((warden_keeps d office k (Take x)).outcome ≡ Refused 6 → ⊥) → (warden_keeps d office k (Take x)).sends ≡ One office (Took x.edition)
took_sent d k x =
    cond_both (ltb (d.at k).edition x.edition) (record { next = x; sends = One office (Took x.edition); outcome = Done taken }) (record { next = d.at k; sends = One office (Took x.edition); outcome = Refused 2 }) (λ (o : Step Note WardenDone). Says (keep_note d k o))
    (λ _. cond_both (room k d) (record { next = store k x d; sends = One office (Took x.edition); outcome = Done taken }) (refuse d 6) Says (λ _ _. refl) (λ _ roomy. absurd (roomy refl)))
    (λ _ _. refl)
  where
    Says : Step (Keep Note) WardenDone → Type 0
    Says o = (o.outcome ≡ Refused 6 → ⊥) → o.sends ≡ One office (Took x.edition)

module _ (n f : ℕ) (liar : ℕ → Bool) (least : 4 * f < n) (s : System) (run : Run n f liar s) (i : ℕ) (below : i < n) (own : liar i ≡ false) (awake : Awake (s.warden i)) (p : Packet) (at : Memᴰ p s.bag) where
  abbrev notes : Keep Note
  notes = (s.warden i).memory.notes

  -- what comes of it
  abbrev pub hearing : Step (Keep Note) WardenDone
  hearing = warden_keeps notes p.from p.note p.message

  -- it has room
  pub never_full : hearing.outcome ≡ Refused 6 → ⊥
  never_full full =
      let (o, w, b, h) = followed n f liar least run in
      let (more, grown, sent, end) = hears_all n f liar o w s.reader i below own ((h.warden i below own).working awake.up).batch b s.log h.bag (own_run n f liar s i h) in
      R.never_full n f liar (record { office = o; warden = _; reader = s.reader; bag = more; log = _ }) end i p (grown p (h.bag p at))
      (ap (λ (d : Keep Note). (warden_keeps d p.from p.note p.message).outcome) (put_same i notes w) ∙ full)

  module _ (to : p.to ≡ i) (from : honest liar p.from ≡ true) where
    abbrev records : List Frame
    records = warden_records p.note hearing

    abbrev node : Node Warden
    node = stepped n i p.note hearing (s.warden i)

    abbrev told : System
    told = with_warden i node s

    -- it has heard it, synced and answered
    abbrev pub answered : System
    answered = warden_flushed i records told

    node_is : told.warden i ≡ node
    node_is = put_same i node s.warden

    pub fit : Records roles.Warden records
    fit =
        let (o, w, b, h) = followed n f liar least run in
        taken_records i s.bag notes records (writes_by i s.bag (bag_fits n f liar s least h) notes p.from p.note p.message (subst (λ (c : ℕ). Memᴰ (record { from = p.from; to = c; note = p.note; message = p.message }) s.bag) to at) refl (heard notes p.from p.note p.message)).0

    pub answers_way : Way n f liar s answered
    answers_way =
        by n f liar (warden_hear i p below own awake.up at to, from)
        (one n f liar (
          warden_flushes i records below own (ap (λ (c : Node Warden). c.up) node_is ∙ awake.up)
              (ap (λ (c : Node Warden). c.disk.file.pending) node_is ∙ ap (λ (bs : List ℕ). bs ++ encode_all records) awake.synced) fit,
          refl,
        ))

    pub answers_onward : Onward s answered
    answers_onward = let (more, is) = took_front i records s.log in record { reader = refl; bag = λ q at. Memᴰ.append_right (told.warden i).memory.outbox at; more = more; log = is }

    pub answers_awake : ((j : ℕ) → j < n → liar j ≡ false → Awake (s.warden j)) → (j : ℕ) → j < n → liar j ≡ false → Awake (answered.warden j)
    answers_awake all =
        subst (λ (w : ℕ → Node Warden). (j : ℕ) → Up j (w j)) (sym (put_twice i (flushed (told.warden i)) node s.warden))
        (put_all Up i (flushed (told.warden i)) s.warden (λ _ _. record { up = ap (λ (c : Node Warden). c.up) node_is ∙ awake.up; synced = refl }) all)
      where
        Up : ℕ → Node Warden → Type 0
        Up j c = j < n → liar j ≡ false → Awake c

    -- its answer is on its way
    pub answer_sent : (q : ℕ) (m : Message) → hearing.sends ≡ One q m → Memᴰ (record { from = i; to = q; note = p.note; message = m }) answered.bag
    answer_sent q m is =
        Memᴰ.append_left s.bag
        (subst (λ (c : Node Warden). Memᴰ (record { from = i; to = q; note = p.note; message = m }) c.memory.outbox) (sym node_is)
        (Memᴰ.append_right (s.warden i).memory.outbox (subst (λ (out : Sends). Memᴰ (record { from = i; to = q; note = p.note; message = m }) (packets n i p.note out)) (sym is) (Memᴰ.head refl))))
