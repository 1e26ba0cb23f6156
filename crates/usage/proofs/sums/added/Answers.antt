-- `added` meets its contract: a loop over the scopes.
use Rattle.lists.specs.laws.Part.{unmapped}
use Rattle.usage.specs.laws.Sums.{scope_loops}
use Rattle.std.proofs.Common.{rules}
use Rattle.usage.proofs.sums.added.Goals as goal

pub loop-k-init : goal.loop-k-init
loop-k-init c = search (scope_loops, unmapped, rules)

pub loop-k-preserved : goal.loop-k-preserved
loop-k-preserved c = search (scope_loops, unmapped, rules)

pub returns : goal.returns
returns c = search (scope_loops, unmapped, rules)
