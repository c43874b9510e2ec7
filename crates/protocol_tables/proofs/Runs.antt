-- A run with tables goes on with what a party does by the rules.
-- Assumes nothing.
use Rattle.std.proofs.Common.{ℕ, ◌*◌, ◌<◌, Bool, List, refl}
use Rattle.register.specs.Note.{Note}
use Rattle.protocol.specs.Message.{office, Message}
use Rattle.protocol_tables.specs.Keep.{Keep}
use Rattle.protocol_tables.specs.Warden.{warden_keeps}
use Rattle.protocol_tables.specs.Office.{Office, office_writes, office_hears, office_ticks}
use Rattle.protocol_tables.specs.System.{System, Move, Run, then}
use Rattle.protocol_tables.specs.System as S
use Rattle.protocol_tables.specs.Runs.{GoodRun, WardenHears, OfficeHears, OfficeWrites, OfficeTicks}
use Rattle.protocol_tables.specs.Readers.{Readers}
use Rattle.protocol_tables.proofs.Refines.{holds}

goes : (n f : ℕ) → 4 * f < n → (liar : ℕ → Bool) {s t : System} → Run n f liar s → Move n f liar s t → GoodRun n f liar t
goes n f least liar {s} {t} run m = record { run = then run m; good = holds n f liar least t (then run m) }

module _ (n f : ℕ) (least : 4 * f < n) where
  pub warden_runs : (d : Keep Note) (from k : ℕ) (m : Message) → WardenHears n f d from k m (warden_keeps d from k m)
  warden_runs d from k m liar s i run l own is at = rw (← is) (goes n f least liar run (S.warden_hear i (record { from = from; to = i; note = k; message = m }) l own at refl))

  pub office_runs : (d : Office) (from k : ℕ) (m : Message) → OfficeHears n f d from k m (office_hears n f d from k m)
  office_runs d from k m liar s run is at = rw (← is) (goes n f least liar run (S.office_hear (record { from = from; to = office; note = k; message = m }) at refl))

  pub writing_runs : (d : Office) (k : ℕ) (v : List ℕ) → OfficeWrites n f d k (office_writes d k v)
  writing_runs d k v liar s run is = rw (← is) (goes n f least liar run (S.writes k v))

  pub ticking_runs : (d : Office) → OfficeTicks n f d (office_ticks d)
  ticking_runs d liar s run is = rw (← is) (goes n f least liar run S.office_tick)

pub readers_run_lem : Readers
readers_run_lem n f least q =
    record {
      hears = λ from k m liar s j run own is at. rw (← is) (goes n f least liar run (S.reader_hears j (record { from = from; to = j; note = k; message = m }) own at refl));
      reads = λ k liar s j run own is. rw (← is) (goes n f least liar run (S.reads j k own));
      ticks = λ liar s j run own is. rw (← is) (goes n f least liar run (S.reader_ticks j own));
    }
