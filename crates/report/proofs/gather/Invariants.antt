use Rattle.std.proofs.Common.{◌+◌, ◌≤◌}
use Rattle.report.proofs.gather.Given as goal

abbrev pub invariant-loop-i : goal.invariant-loop-i
invariant-loop-i l = l.i ≤ l.n + 2
