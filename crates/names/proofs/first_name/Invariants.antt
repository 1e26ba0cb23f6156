use Rattle.std.proofs.Common.{get_or}
use Rattle.names.proofs.First.{FirstInv}
use Rattle.names.proofs.first_name.Given as goal

abbrev pub invariant-loop : goal.invariant-loop
invariant-loop g l = FirstInv (goal.F-post g l.wanted) l.list (get_or l.list 0 0) l.here l.counter
