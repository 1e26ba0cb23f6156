use Rattle.names.proofs.Rows.{On}
use Rattle.names.proofs.row_end.Given as goal

abbrev pub invariant-loop : goal.invariant-loop
invariant-loop g l = goal.F-pre g l.end l.here × On (goal.F-post g l.end) l.n l.fn.at l.here l.counter
