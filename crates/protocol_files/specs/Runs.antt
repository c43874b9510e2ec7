-- A run goes on with what a party did, and its log is good.
-- Assumes nothing.
use Rattle.std.specs.Prelude.{ℕ, Bool, List, ◌++◌}
use Rattle.register.specs.Count.{put}
use Rattle.protocol.specs.Message.{Packet}
use Rattle.protocol.specs.Log.{Log}
use Rattle.protocol.specs.Promise.{Good}
use Rattle.protocol_tables.specs.Office.{Office}
use Rattle.protocol_files.specs.Nodes.{Node, Warden}
use Rattle.protocol_files.specs.System.{System, Run}

-- s is what a run has come to, and its log is good
pub record GoodRun (n f : ℕ) (liar : ℕ → Bool) (s : System) : Type 0 where
  pub run : Run n f liar s
  pub good : Good n f liar s.log

-- the run goes on: the warden i is c now, `out` is on its way too, something more may have come to pass, and everybody else is as before
abbrev pub WardenGoesOn : (n f : ℕ) (liar : ℕ → Bool) (i : ℕ) → System → Node Warden → (out : List Packet) → Type 0
WardenGoesOn n f liar i s c out =
    (more : Log) × GoodRun n f liar (record { office = s.office; warden = put i c s.warden; reader = s.reader; bag = out ++ s.bag; log = more ++ s.log })

-- the run goes on: the office is c now, this is on its way, something more may have come to pass, and everybody else is as before
abbrev pub OfficeGoesOn : (n f : ℕ) (liar : ℕ → Bool) → System → Node Office → (bag : List Packet) → Type 0
OfficeGoesOn n f liar s c bag = (more : Log) × GoodRun n f liar (record { office = c; warden = s.warden; reader = s.reader; bag = bag; log = more ++ s.log })
