-- `set_in` meets its contract: its tests, on the scope's number.
use Rattle.allocation.specs.laws.Loops.{set_here, set_past, set_zero}
use Rattle.std.proofs.Common.{rules}
use Rattle.allocation.proofs.set_in.Goals as goal

pub returns-then-scope-eq0 : goal.returns-then-scope-eq0
returns-then-scope-eq0 c = search (set_zero, set_past, rules)

pub returns-then-scope-gt4 : goal.returns-then-scope-gt4
returns-then-scope-gt4 c = search (set_zero, set_past, rules)

pub returns : goal.returns
returns c = search (set_here, rules)
