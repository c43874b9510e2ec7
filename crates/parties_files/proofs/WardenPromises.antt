-- Every run goes on with what a warden's call did.
-- Assumes nothing.
use Rattle.std.proofs.Common.{◌≡◌, ℕ, ◌*◌, ◌<◌, Bool, true, false, ◌⊎◌, List, [], map, Ok, Err, MatchBool, Result, sym, ap, ◌∙◌, subst, inl, inr, ⊎_elim, MatchResult}
use mathlib.Core.List.{Memᴰ}
use Rattle.protocol.specs.Message.{Message, Packet}
use Rattle.parties.specs.Views.{WardenOutcome, warden_outcome}
use Rattle.protocol_tables.specs.Warden.{warden_keeps}
use Rattle.frames.specs.Journal.{Splits}
use Rattle.frames.specs.declared.role.Role.TheVariants as roles
use Rattle.protocol_files.specs.Disk.{Disk, contents, sync, Cut}
use Rattle.protocol_files.specs.Nodes.{Node, fallen, stepped, flushed, opened_warden}
use Rattle.protocol_files.specs.Nodes as rules
use Rattle.protocol_files.specs.Records.{warden_of}
use Rattle.protocol_files.specs.System.{System, Run}
use Rattle.protocol_files.specs.Runs.{WardenGoesOn}
use Rattle.protocol_files.proofs.Sound.{sound_warden}
use Rattle.protocol_files.proofs.WardenGoes.{warden_stays_on, warden_falls_on, warden_hears_on, warden_flushes_on, warden_opens_on, warden_restores_on, warden_renewed_on}
use Rattle.storage.specs.Changes.{Scribbled}
use Rattle.storage.specs.declared.fault.Fault.{Fault}
use Rattle.journal.specs.Openings.{Found, Sound, Unstarted, opened_disk, renewed}
use Rattle.journal.specs.declared.opening.Opening.{Opening}
use Rattle.journal.proofs.Cuts.{scribbled_left}
use Rattle.parties_files.specs.Wardens.{kept, outbox_of, packet_of, node_of, Did, Failed, Flushed, Started}
use Rattle.parties_files.specs.Promises.{WardenRuns, WardenHears}
use Rattle.parties_files.specs.declared.warden.Warden.{Warden}

module _ (P Q : Disk → Type 0) (w v : Warden) where
  -- of a warden that is down nothing is known but its disk
  down_node : (i : ℕ) (e : Disk) → v.up ≡ false → fallen e (node_of i v e).memory ≡ node_of i v e
  down_node i e down = ap (λ (b : Bool). record { disk = e; up = b; memory = (node_of i v e).memory }) (sym down)

  module _ (d : Disk) (n f : ℕ) (liar : ℕ → Bool) (s : System) (i : ℕ) (least : 4 * f < n) (run : Run n f liar s) (below : i < n) (own : liar i ≡ false) (is : s.warden i ≡ node_of i w d) where
    abbrev Goes : Node rules.Warden → List Packet → Type 0
    Goes c out = WardenGoesOn n f liar i s c out

    failed_on : (e : Disk) → ((i : ℕ) → node_of i v e ≡ node_of i w d) ⊎ ((v.up ≡ false) × Cut d e) → Goes (node_of i v e) []
    failed_on e =
        ⊎_elim
        (λ (same : (i : ℕ) → node_of i v e ≡ node_of i w d). subst (λ (c : Node rules.Warden). Goes c []) (is ∙ sym (same i)) (warden_stays_on n f liar s i least run below own))
        (λ (down, fall). subst (λ (c : Node rules.Warden). Goes c []) (down_node i e down) (warden_falls_on n f liar s i least run below own e (node_of i v e).memory (subst (λ (c : Node rules.Warden). Cut c.disk e) (sym is) fall)))

    stepped_on : (from k : ℕ) (m : Message) (e : Disk) → w.up ≡ true → node_of i v e ≡ stepped n i k (warden_keeps (kept w) from k m) (node_of i w d) → Memᴰ (record { from = from; to = i; note = k; message = m }) s.bag → Goes (node_of i v e) []
    stepped_on from k m e up same at =
        subst (λ (c : Node rules.Warden). Goes c []) (ap (λ (c : Node rules.Warden). stepped n i k (warden_keeps c.memory.notes from k m) c) is ∙ sym same)
        (warden_hears_on n f liar s i least run below own from k m (ap (λ (c : Node rules.Warden). c.up) is ∙ up) at)

    flushed_on : w.up ≡ true → node_of i v (sync d) ≡ flushed (node_of i w d) → Goes (node_of i v (sync d)) (outbox_of i w)
    flushed_on up same =
        subst (λ (c : Node rules.Warden). Goes (flushed c) c.memory.outbox → Goes (node_of i v (sync d)) (outbox_of i w)) (sym is) (subst (λ (c : Node rules.Warden). Goes c (outbox_of i w)) (sym same))
        (warden_flushes_on n f liar s i least run below own (ap (λ (c : Node rules.Warden). c.up) is ∙ up))

  pub hears : (from k : ℕ) (m : Message) (r : Result WardenOutcome Fault) → MatchResult r (λ o. Did P Q w v k (warden_outcome o) (warden_keeps (kept w) from k m)) (λ _. Failed P Q w v) → WardenHears P Q w v from k m
  hears from k m (Ok o) did d h n f liar s i least run below own is at =
      let (e, q, same) = did.node d h in
      (e, q, stepped_on d n f liar s i least run below own is from k m e did.up (same n i) at)
  hears from k m (Err x) fails d h n f liar s i least run below own is at =
      let (e, q, which) = fails d h in
      (e, q, failed_on d n f liar s i least run below own is e which)

  pub fails_on : Failed P Q w v → WardenRuns P Q w v (λ i. [])
  fails_on fails d h n f liar s i least run below own is = let (e, q, which) = fails d h in (e, q, failed_on d n f liar s i least run below own is e which)

  pub flushes_on : Flushed P Q w v → WardenRuns P Q w v (λ i. outbox_of i w)
  flushes_on done d h n f liar s i least run below own is = let (q, same) = done.node d h in (sync d, q, flushed_on d n f liar s i least run below own is done.up (same i))

  pub flushes : (r : Result (Unit {0}) Fault) → MatchResult r (λ _. Flushed P Q w v) (λ _. Failed P Q w v ⊎ Flushed P Q w v) → MatchResult r (λ _. WardenRuns P Q w v (λ i. outbox_of i w)) (λ _. WardenRuns P Q w v (λ i. []) ⊎ WardenRuns P Q w v (λ i. outbox_of i w))
  flushes (Ok _) done = flushes_on done
  flushes (Err _) fails = ⊎_elim (λ f. inl (fails_on f)) (λ done. inr (flushes_on done)) fails

  -- it was down, and has opened its file
  started_on : (trusted : Bool) (o : Opening) → w.up ≡ false → Started P Q v trusted o → WardenRuns P Q w v (λ i. [])
  started_on trusted o down done d h n f liar s i least run below own is =
      (opened_disk done.frames, done.left d h, subst (λ (c : Node rules.Warden). WardenGoesOn n f liar i s c []) (sym node) (found trusted (done.found d h)))
    where
      node : node_of i v (opened_disk done.frames) ≡ opened_warden done.frames (warden_of done.frames)
      node = let outbox = ap (map (packet_of i)) done.outbox in λ t. record { disk = opened_disk done.frames; up = done.up t; memory = record { notes = done.kept t; outbox = outbox t } }

      found : (b : Bool) → MatchBool b (Found roles.Warden (contents d.file) done.frames o) ((rest : List ℕ) × Splits roles.Warden d.file.synced done.frames rest) → WardenGoesOn n f liar i s (opened_warden done.frames (warden_of done.frames)) []
      found true at =
          warden_opens_on n f liar s i least run below own done.frames at.rest (ap (λ (c : Node rules.Warden). c.up) is ∙ down)
          (subst (λ (c : Node rules.Warden). Splits roles.Warden (contents c.disk.file) done.frames at.rest) (sym is) at.splits)
      found false (rest, splits) =
          warden_restores_on n f liar s i least run below own done.frames rest (subst (λ (c : Node rules.Warden). Splits roles.Warden c.disk.file.synced done.frames rest) (sym is) splits)

  unstarted_on : v.up ≡ false → w.up ≡ false → Unstarted roles.Warden P Q → WardenRuns P Q w v (λ i. [])
  unstarted_on down was fails d h n f liar s i least run below own is =
      let sound : Sound roles.Warden d = subst (λ (c : Node rules.Warden). Sound roles.Warden c.disk) is (sound_warden n f liar s least run i below own) in
      let (e, q, which) = fails d h sound in
      (e, q, subst (λ (c : Node rules.Warden). WardenGoesOn n f liar i s c []) (down_node i e down) (left e which))
    where
      left : (e : Disk) → (Scribbled d e ⊎ Cut (renewed d) e) ⊎ Cut d e → WardenGoesOn n f liar i s (fallen e (node_of i v e).memory) []
      left e =
          ⊎_elim
          (⊎_elim
          (λ (g, same). warden_falls_on n f liar s i least run below own e (node_of i v e).memory (subst (λ (c : Node rules.Warden). Cut c.disk e) (sym is) (subst (λ (x : Disk). Cut d x) (sym same) (scribbled_left d g))))
          (λ fall. warden_renewed_on n f liar s i least run below own e (node_of i v e).memory (subst (λ (c : Node rules.Warden). Cut (renewed c.disk) e) (sym is) fall)))
          (λ fall. warden_falls_on n f liar s i least run below own e (node_of i v e).memory (subst (λ (c : Node rules.Warden). Cut c.disk e) (sym is) fall))

  pub starts : (trusted : Bool) (r : Result Opening Fault) → MatchResult r (λ o. Started P Q v trusted o) (λ _. (v.up ≡ false) × Unstarted roles.Warden P Q) → w.up ≡ false → WardenRuns P Q w v (λ i. [])
  starts trusted (Ok o) done down = started_on trusted o down done
  starts trusted (Err _) (now_down, fails) down = unstarted_on now_down down fails
