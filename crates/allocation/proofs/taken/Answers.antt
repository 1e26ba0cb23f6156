-- `taken` meets its contract: a fold that joins sets.
use Rattle.allocation.specs.laws.Loops.{union_is}
use Rattle.std.proofs.Common.{rules}
use Rattle.allocation.proofs.taken.Goals as goal

pub returns : goal.returns
returns c = rw (← union_is) (search rules)
