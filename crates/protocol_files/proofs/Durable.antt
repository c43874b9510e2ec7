-- What a party has said is on its file.
-- Assumes nothing.
use Rattle.std.proofs.Common.{◌≡◌, ℕ, ◌*◌, ◌<◌, ◌≤◌, Bool, false, ◌⊎◌, List, ◌++◌, sym, refl, ap, ◌∙◌, subst, ⊎_elim, arith}
use mathlib.Core.List.{Memᴰ}
use Rattle.register.specs.Note.{Note, none}
use Rattle.register.proofs.Notes.{note_path}
use Rattle.protocol.specs.Message.{office, Take, Took, Packet}
use Rattle.protocol.specs.Log.{Began, high}
use Rattle.protocol.specs.Log as events
use Rattle.protocol.proofs.Laws.{good_logs}
use Rattle.protocol.proofs.Shows.{Says}
use Rattle.protocol.proofs.Follows as F
use Rattle.protocol_tables.specs.Keep.{Keep, empty}
use Rattle.protocol_tables.specs.Office.{Office}
use Rattle.protocol_tables.specs.System as tables
use Rattle.protocol_tables.proofs.Refines as T
use Rattle.frames.specs.Format.{Frame}
use Rattle.frames.specs.declared.role.Role.TheVariants as roles
use Rattle.protocol_files.specs.Disk.{Disk, Cut}
use Rattle.protocol_files.specs.Records.{warden_replays_all, warden_of}
use Rattle.protocol_files.specs.System.{System, Found}
use Rattle.protocol_files.specs.Durable.{WardenKeeps, OfficeKeeps, Durable}
use Rattle.protocol_files.proofs.Disks.{first}
use Rattle.protocol_files.proofs.Takes.{Taken, replays-++, taken_later}
use Rattle.protocol_files.proofs.WardenFiles.{WardenFile, warden_cut, warden_finds}
use Rattle.protocol_files.proofs.Posted.{run_posted}
use Rattle.protocol_files.proofs.Held.{Honest, run_honest}
use Rattle.protocol_files.proofs.Shown.{plain, Shown}
use Rattle.protocol_files.proofs.Refines.{followed}

-- without files, an honest warden has had what it says that it took
said_took : (n f : ℕ) (liar : ℕ → Bool) → 4 * f < n → (u : tables.System) → tables.Run n f liar u → (p : Packet) (e : ℕ) → Memᴰ p u.bag → p.from < n → liar p.from ≡ false → p.message ≡ Took e → e ≤ high p.from p.note u.log
said_took n f liar least u run p e at below own is =
    let (w, _, h) = (F.run_kept n f liar least (T.refines n f liar u run)).followed p.note 0 in
    let says = subst (λ m. Says n liar p.note 0 w p.from p.to p.note m) is (h.bag p at) in
    ⊎_elim (λ lies. cc) (λ low. omega (arith, low refl, (h.warden p.from).high)) (says below)

module _ (n f : ℕ) (liar : ℕ → Bool) (least : 4 * f < n) (s : System) {o : Office} {w : ℕ → Keep Note} {b : List Packet} (h : Shown n f liar s o w b) where
  office_keeps : OfficeKeeps s
  office_keeps =
      record {
        begun = begun;
        one_value = λ p q x y p_at q_at p_from q_from about p_is q_is same.
            note_path x y same ((good_logs n f liar s.log (T.holds n f liar least (plain n f liar o w b s) h.run)).one_value p.note x.edition x.value y.value (begun p x p_at p_from p_is)
            (subst (λ (k : ℕ). Memᴰ (Began k x.edition y.value) s.log) (sym about) (subst (λ (e : ℕ). Memᴰ (Began q.note e y.value) s.log) (sym same) (begun q y q_at q_from q_is))));
      }
    where
      begun : (p : Packet) (x : Note) → Memᴰ p s.bag → p.from ≡ office → p.message ≡ Take x → Memᴰ (Began p.note x.edition x.value) s.log
      begun p x at from is = run_posted n f liar least h.run p x (h.bag p at) from is

  warden_keeps : (i : ℕ) → i < n → liar i ≡ false → WardenKeeps i s
  warden_keeps i below own =
      record {
        synced = λ g at. let file = (h.warden i below own).files g at in (file.old, file.has.sure, file.has.records, λ k. ap (λ (d : Keep Note). (d.at k).edition) file.means ∙ sym (honest.holding i k));
        said = λ p e at from is. subst (λ (i : ℕ). e ≤ high i p.note s.log) from (said_took n f liar least (plain n f liar o w b s) h.run p e (h.bag p at) (rw from below) (rw from own) is);
        told = λ p r x at from is. subst (λ (i : ℕ). (x.edition ≡ 0) ⊎ Memᴰ (events.Took i p.note x.edition) s.log) from (honest.told p r x (h.bag p at) (rw from below) (rw from own) is);
        recovers = recovers;
      }
    where
      honest : Honest n liar (plain n f liar o w b s)
      honest = run_honest n f liar h.run

      recovers : (d : Disk) (ss ps : List Frame) (rest : List ℕ) → Cut (s.warden i).disk d → Found roles.Warden d.file ss ps rest → (k : ℕ) →
          ((warden_of (ss ++ ps)).at k ≡ (warden_of ss).at k)
          ⊎ ((((warden_of ss).at k).edition < ((warden_of (ss ++ ps)).at k).edition) × Memᴰ (record { from = office; to = i; note = k; message = Take ((warden_of (ss ++ ps)).at k) }) s.bag)
      recovers d ss ps rest fall found k =
          let files = warden_cut n i s.bag (w i) (s.warden i) (h.warden i below own) fall in
          let (taken, is) = warden_finds n i s.bag (w i) (s.warden i) (h.warden i below own) (first (WardenFile i s.bag (w i)) d.file d.former files) found in
          let all : warden_of (ss ++ ps) ≡ warden_replays_all (warden_of ss) ps = replays-++ (empty none) ss ps in
          subst (λ (c : Keep Note). (c.at k ≡ (warden_of ss).at k) ⊎ ((((warden_of ss).at k).edition < (c.at k).edition) × Memᴰ (record { from = office; to = i; note = k; message = Take (c.at k) }) s.bag)) (sym all)
          (taken_later i s.bag (warden_of ss) ps k (subst (λ (c : Keep Note). Taken i s.bag c ps) (sym is) taken))

pub durable : Durable
durable n f liar least s run = let (o, w, b, h) = followed n f liar least run in (office_keeps n f liar least s h, warden_keeps n f liar least s h)
