-- Every run goes on with what a call of the office did.
-- Assumes nothing.
use Rattle.std.proofs.Common.{◌≡◌, ℕ, ◌*◌, ◌<◌, Bool, true, false, ◌⊎◌, List, take, Ok, Err, MatchBool, Result, sym, ap, ◌∙◌, subst, inl, inr, ⊎_elim, MatchResult}
use Rattle.protocol.specs.Message.{Message}
use Rattle.parties.specs.Views.{OfficeOutcome, office_outcome}
use Rattle.protocol_tables.specs.Office as rules
use Rattle.protocol_tables.specs.Office.{OfficeStep, post, office_writes, office_hears}
use Rattle.frames.specs.Journal.{Splits, encode_all}
use Rattle.frames.specs.declared.role.Role.TheVariants as roles
use Rattle.protocol_files.specs.Disk.{Disk, contents, append, Cut}
use Rattle.protocol_files.specs.Nodes.{Node, fallen, opened, recorded}
use Rattle.protocol_files.specs.Records.{office_of, office_records}
use Rattle.protocol_files.specs.System.{Writable}
use Rattle.protocol_files.specs.Runs.{OfficeGoesOn}
use Rattle.protocol_files.proofs.Sound.{sound_office}
use Rattle.protocol_files.proofs.OfficeGoes.{office_stays_on, office_falls_on, office_writes_on, office_write_stops_on, office_hears_on, office_hear_stops_on, office_opens_on, office_restores_on, office_renewed_on}
use Rattle.storage.specs.Changes.{Scribbled}
use Rattle.storage.specs.declared.fault.Fault.{Fault}
use Rattle.journal.specs.Openings.{Found, Sound, Unstarted, opened_disk, renewed}
use Rattle.journal.specs.declared.opening.Opening.{Opening}
use Rattle.journal.proofs.Cuts.{scribbled_left}
use Rattle.parties_files.specs.Offices.{desks_of, node_of, Recorded, Stopped, Same, Failed, same, stopped, unsent, Started}
use Rattle.parties_files.specs.Promises.{OfficeRuns, OfficeHears}
use Rattle.parties_files.specs.declared.office.Office.{Office}

module _ (n f : ℕ) (least : 4 * f < n) (P Q : Disk → Type 0) (w v : Office) where
  -- of an office that is down nothing is known but its disk
  down_node : (e : Disk) → v.up ≡ false → fallen e (desks_of v) ≡ node_of v e
  down_node e down = ap (λ (b : Bool). record { disk = e; up = b; memory = desks_of v }) (sym down)

  same_on : Same P Q w v → OfficeRuns n f P Q w v (λ bag. bag)
  same_on stays d h liar s run is =
      let (q, as_was) = stays.node d h in
      (d, q, subst (λ (c : Node rules.Office). OfficeGoesOn n f liar s c s.bag) (is ∙ sym as_was) (office_stays_on n f liar s least run))

  -- WRITING
  module _ (k : ℕ) (x : List ℕ) (fits : Writable k x) where
    abbrev step : OfficeStep
    step = office_writes (desks_of w) k x

    written_on : Recorded P Q w v k step → OfficeRuns n f P Q w v (post n step.letters)
    written_on done d h liar s run is =
        let (e, q, as_said) = done.node d h in (
          e,
          q,
          subst (λ (c : Node rules.Office). OfficeGoesOn n f liar s (recorded k (office_writes c.memory k x) c) (post n (office_writes c.memory k x).letters s.bag) → OfficeGoesOn n f liar s (node_of v e) (post n step.letters s.bag)) (sym is)
              (subst (λ (c : Node rules.Office). OfficeGoesOn n f liar s c (post n step.letters s.bag)) (sym as_said))
              (office_writes_on n f liar s least run k x fits (ap (λ (c : Node rules.Office). c.up) is ∙ done.up)),
        )

    stopped_on : Stopped P Q w v k step → OfficeRuns n f P Q w v (λ bag. bag)
    stopped_on halt d h liar s run is =
        let (j, q) = halt.disk d h in
        let e = append (take j (encode_all (office_records k step))) d in (
          e,
          q,
          subst (λ (c : Node rules.Office). OfficeGoesOn n f liar s (fallen (append (take j (encode_all (office_records k (office_writes c.memory k x)))) c.disk) (desks_of v)) s.bag → OfficeGoesOn n f liar s (node_of v e) s.bag) (sym is)
              (subst (λ (c : Node rules.Office). OfficeGoesOn n f liar s c s.bag) (down_node e halt.down))
              (office_write_stops_on n f liar s least run k x j (desks_of v) fits (ap (λ (c : Node rules.Office). c.up) is ∙ halt.up)),
        )

    pub writes : (r : Result OfficeOutcome Fault) → MatchResult r (λ o. (office_outcome o ≡ step.outcome) × Recorded P Q w v k step) (λ _. Failed P Q w v k step) →
        MatchResult r (λ _. OfficeRuns n f P Q w v (post n step.letters)) (λ _. OfficeRuns n f P Q w v (λ bag. bag) ⊎ OfficeRuns n f P Q w v (post n step.letters))
    writes (Ok o) (_, done) = written_on done
    writes (Err _) (same stays) = inl (same_on stays)
    writes (Err _) (stopped halt) = inl (stopped_on halt)
    writes (Err _) (unsent done) = inr (written_on done)

  -- HEARING
  module _ (from k : ℕ) (m : Message) where
    abbrev heard : OfficeStep
    heard = office_hears n f (desks_of w) from k m

    heard_on : Recorded P Q w v k heard → OfficeHears n f P Q w v from k m
    heard_on done d h liar s run is at =
        let (e, q, as_said) = done.node d h in (
          e,
          q,
          subst (λ (c : Node rules.Office). OfficeGoesOn n f liar s (recorded k (office_hears n f c.memory from k m) c) s.bag → OfficeGoesOn n f liar s (node_of v e) s.bag) (sym is)
              (subst (λ (c : Node rules.Office). OfficeGoesOn n f liar s c s.bag) (sym as_said))
              (office_hears_on n f liar s least run from k m (ap (λ (c : Node rules.Office). c.up) is ∙ done.up) at),
        )

    halted_on : Stopped P Q w v k heard → OfficeHears n f P Q w v from k m
    halted_on halt d h liar s run is at =
        let (j, q) = halt.disk d h in
        let e = append (take j (encode_all (office_records k heard))) d in (
          e,
          q,
          subst (λ (c : Node rules.Office). OfficeGoesOn n f liar s (fallen (append (take j (encode_all (office_records k (office_hears n f c.memory from k m)))) c.disk) (desks_of v)) s.bag → OfficeGoesOn n f liar s (node_of v e) s.bag) (sym is)
              (subst (λ (c : Node rules.Office). OfficeGoesOn n f liar s c s.bag) (down_node e halt.down))
              (office_hear_stops_on n f liar s least run from k m (ap (λ (c : Node rules.Office). c.up) is ∙ halt.up) at j (desks_of v)),
        )

    pub hears : (r : Result OfficeOutcome Fault) → MatchResult r (λ o. (office_outcome o ≡ heard.outcome) × Recorded P Q w v k heard) (λ _. Failed P Q w v k heard) → OfficeHears n f P Q w v from k m
    hears (Ok o) (_, done) = heard_on done
    hears (Err _) (same stays) = λ d h liar s run is at. same_on stays d h liar s run is
    hears (Err _) (stopped halt) = halted_on halt
    hears (Err _) (unsent done) = heard_on done

  -- OPENING
  started_on : (trusted : Bool) (o : Opening) → w.up ≡ false → Started P Q w v trusted o → OfficeRuns n f P Q w v (λ bag. bag)
  started_on trusted o down done d h liar s run is =
      (opened_disk done.frames, done.left d h, subst (λ (c : Node rules.Office). OfficeGoesOn n f liar s c s.bag) (sym node) (found trusted (done.found d h)))
    where
      node : node_of v (opened_disk done.frames) ≡ opened done.frames (office_of done.frames)
      node = λ t. record { disk = opened_disk done.frames; up = done.up t; memory = done.desks t }

      found : (b : Bool) → MatchBool b (Found roles.Office (contents d.file) done.frames o) ((rest : List ℕ) × Splits roles.Office d.file.synced done.frames rest) → OfficeGoesOn n f liar s (opened done.frames (office_of done.frames)) s.bag
      found true at =
          office_opens_on n f liar s least run done.frames at.rest (ap (λ (c : Node rules.Office). c.up) is ∙ down)
          (subst (λ (c : Node rules.Office). Splits roles.Office (contents c.disk.file) done.frames at.rest) (sym is) at.splits)
      found false (rest, splits) =
          office_restores_on n f liar s least run done.frames rest (subst (λ (c : Node rules.Office). Splits roles.Office c.disk.file.synced done.frames rest) (sym is) splits)

  unstarted_on : v.up ≡ false → Unstarted roles.Office P Q → OfficeRuns n f P Q w v (λ bag. bag)
  unstarted_on down fails d h liar s run is =
      let sound : Sound roles.Office d = subst (λ (c : Node rules.Office). Sound roles.Office c.disk) is (sound_office n f liar s least run) in
      let (e, q, which) = fails d h sound in
      (e, q, subst (λ (c : Node rules.Office). OfficeGoesOn n f liar s c s.bag) (down_node e down) (left e which))
    where
      left : (e : Disk) → (Scribbled d e ⊎ Cut (renewed d) e) ⊎ Cut d e → OfficeGoesOn n f liar s (fallen e (desks_of v)) s.bag
      left e =
          ⊎_elim
          (⊎_elim
          (λ (g, is_so). office_falls_on n f liar s least run e (desks_of v) (subst (λ (c : Node rules.Office). Cut c.disk e) (sym is) (subst (λ (x : Disk). Cut d x) (sym is_so) (scribbled_left d g))))
          (λ fall. office_renewed_on n f liar s least run e (desks_of v) (subst (λ (c : Node rules.Office). Cut (renewed c.disk) e) (sym is) fall)))
          (λ fall. office_falls_on n f liar s least run e (desks_of v) (subst (λ (c : Node rules.Office). Cut c.disk e) (sym is) fall))

  pub starts : (trusted : Bool) (r : Result Opening Fault) → MatchResult r (λ o. Started P Q w v trusted o) (λ _. (v.up ≡ false) × Unstarted roles.Office P Q) → w.up ≡ false → OfficeRuns n f P Q w v (λ bag. bag)
  starts trusted (Ok o) done down = started_on trusted o down done
  starts trusted (Err _) (now_down, fails) down = unstarted_on now_down fails
