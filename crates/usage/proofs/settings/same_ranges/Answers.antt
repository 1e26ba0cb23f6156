-- `same_ranges` meets its contract: a loop over two arrays.
use Rattle.lists.specs.laws.Same.{sames}
use Rattle.std.proofs.Common.{rules}
use Rattle.usage.proofs.settings.same_ranges.Goals as goal

pub loop-i-init : goal.loop-i-init
loop-i-init c = search (sames, rules)

pub returns-then-not-same_range : goal.returns-then-not-same_range
returns-then-not-same_range c = search (sames, rules)

pub loop-i-preserved : goal.loop-i-preserved
loop-i-preserved c = search (sames, rules)

pub returns : goal.returns
returns c = search (sames, rules)
