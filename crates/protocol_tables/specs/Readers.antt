-- A reader is the same party with tables as without: what it does by the rules, every run with tables goes on with.
-- Assumes nothing.
use Rattle.std.specs.Prelude.{ℕ, ◌*◌, ◌<◌}
use Rattle.protocol.specs.Message.{Message}
use Rattle.protocol.specs.Reader.{Reader, read_on, reader_tick, reader_on}
use Rattle.protocol_tables.specs.Runs.{ReaderHears, ReaderActs}

pub record ReadersRun (n f : ℕ) (q : Reader) : Type 0 where
  pub hears : (from k : ℕ) (m : Message) → ReaderHears n f q from k m (reader_on n f q from k m)
  pub reads : (k : ℕ) → ReaderActs n f q (read_on q k)
  pub ticks : ReaderActs n f q (reader_tick n f q)

abbrev pub Readers : Type 0
Readers = (n f : ℕ) → 4 * f < n → (q : Reader) → ReadersRun n f q
