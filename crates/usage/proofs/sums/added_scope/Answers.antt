-- `added_scope` meets its contract: a loop over the tenants.
use Rattle.usage.specs.laws.Sums.{tenant_loops}
use Rattle.std.proofs.Common.{rules}
use Rattle.usage.proofs.sums.added_scope.Goals as goal

pub loop-g-init : goal.loop-g-init
loop-g-init c = search (tenant_loops, rules)

pub loop-g-preserved : goal.loop-g-preserved
loop-g-preserved c = search (tenant_loops, rules)

pub returns : goal.returns
returns c = search (tenant_loops, rules)
