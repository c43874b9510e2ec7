use Rattle.std.proofs.Common.{◌≡◌, ℕ, ◌≤◌, Bool}
use Rattle.register.specs.Count.{count}
use Rattle.notes.specs.Views.{Tells}
use Rattle.notes.proofs.quorum.Quorum.count.Given as goal

abbrev pub invariant-loop-index : goal.invariant-loop-index
invariant-loop-index g l = record {
  bound : l.all ≤ l.index;
  value : (p : ℕ → Bool) → Tells (goal.F-post g l.test) p → l.all ≡ count l.index p;
}
