-- `free` meets its contract: the sets that its calls give.
use Rattle.allocation.specs.laws.Loops.{free_is}
use Rattle.std.proofs.Common.{rules}
use Rattle.allocation.proofs.free.Goals as goal

pub returns : goal.returns
returns c = search (free_is, rules)
