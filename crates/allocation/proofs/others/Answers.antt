-- `others` meets its contract: a sum of small numbers.
use Rattle.allocation.specs.laws.Loops.{other_committed_read}
use Rattle.lists.specs.laws.Sums.{sums}
use Rattle.std.proofs.Common.{rules}
use Rattle.allocation.proofs.others.Goals as goal

pub loop-g-init : goal.loop-g-init
loop-g-init c = search (sums, rules)

pub loop-g-preserved : goal.loop-g-preserved
loop-g-preserved c = search (sums, other_committed_read, rules)
