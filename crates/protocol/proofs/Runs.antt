-- A run goes on with what a party does by the rules.
-- Assumes nothing.
use Rattle.std.proofs.Common.{ℕ, ◌*◌, ◌<◌, Bool, List, refl}
use Rattle.register.specs.Note.{Note}
use Rattle.protocol.specs.Message.{office, Message}
use Rattle.protocol.specs.Warden.{warden_on}
use Rattle.protocol.specs.Office.{Desk, write_on, office_tick, office_on}
use Rattle.protocol.specs.Reader.{Reader, read_on, reader_tick, reader_on}
use Rattle.protocol.specs.System.{System, Move, Run, then}
use Rattle.protocol.specs.System as S
use Rattle.protocol.specs.Runs.{GoodRun, WardenHears, OfficeHears, OfficeActs, ReaderHears, ReaderActs}
use Rattle.protocol.proofs.Follows.{holds}

module _ (n f : ℕ) (least : 4 * f < n) where
  goes : (liar : ℕ → Bool) {s t : System} → Run n f liar s → Move n f liar s t → GoodRun n f liar t
  goes liar {s} {t} run m = record { run = then run m; good = holds n f liar least t (then run m) }

  pub warden_hears : (y : Note) (from : ℕ) (m : Message) → WardenHears n f y from m (warden_on y from m)
  warden_hears y from m liar s i k run l own is at = rw (← is) (goes liar run (S.warden_hears i (record { from = from; to = i; note = k; message = m }) l own at refl))

  pub office_hears : (d : Desk) (from : ℕ) (m : Message) → OfficeHears n f d from m (office_on n f d from m)
  office_hears d from m liar s k run is at = rw (← is) (goes liar run (S.office_hears (record { from = from; to = office; note = k; message = m }) at refl))

  pub office_writes : (d : Desk) (v : List ℕ) → OfficeActs n f d (write_on d v)
  office_writes d v liar s k run is = rw (← is) (goes liar run (S.writes k v))

  pub office_ticks : (d : Desk) → OfficeActs n f d (office_tick d)
  office_ticks d liar s k run is = rw (← is) (goes liar run (S.office_ticks k))

  pub reader_hears : (q : Reader) (from k : ℕ) (m : Message) → ReaderHears n f q from k m (reader_on n f q from k m)
  reader_hears q from k m liar s j run own is at = rw (← is) (goes liar run (S.reader_hears j (record { from = from; to = j; note = k; message = m }) own at refl))

  pub reader_reads : (q : Reader) (k : ℕ) → ReaderActs n f q (read_on q k)
  reader_reads q k liar s j run own is = rw (← is) (goes liar run (S.reads j k own))

  pub reader_ticks : (q : Reader) → ReaderActs n f q (reader_tick n f q)
  reader_ticks q liar s j run own is = rw (← is) (goes liar run (S.reader_ticks j own))
