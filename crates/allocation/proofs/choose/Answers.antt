-- `choose` meets its contract: what the two passes promise, put together.
use Rattle.allocation.specs.laws.Sets.{two_passes}
use Rattle.std.proofs.Common.{rules}
use Rattle.allocation.proofs.choose.Goals as goal

pub returns : goal.returns
returns c = search (two_passes, rules)
