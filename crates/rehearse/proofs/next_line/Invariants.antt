use Rattle.std.proofs.Common.{◌≤◌, vec_len}
use Rattle.rehearse.proofs.next_line.Given as goal

abbrev pub invariant-loop : goal.invariant-loop
invariant-loop l = vec_len l.line ≤ 4096
