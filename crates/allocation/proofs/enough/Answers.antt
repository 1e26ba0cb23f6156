-- `enough` meets its contract: the number, widened.
use Rattle.allocation.specs.laws.Loops.{suffices_is}
use Rattle.std.proofs.Common.{rules}
use Rattle.allocation.proofs.enough.Goals as goal

pub returns : goal.returns
returns c = search (suffices_is, rules)
