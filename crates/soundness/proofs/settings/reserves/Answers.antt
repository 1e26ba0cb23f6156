-- `settings::reserves` meets its contract: a sum below a bound.
use Rattle.std.proofs.Common.{rules}
use Rattle.lists.specs.laws.Sums.{sums}
use Rattle.soundness.proofs.settings.reserves.Goals as goal

pub loop-g-init : goal.loop-g-init
loop-g-init c = search (sums, rules)

pub loop-g-preserved : goal.loop-g-preserved
loop-g-preserved c = search (sums, rules)

pub returns : goal.returns
returns c = search (sums, rules)
