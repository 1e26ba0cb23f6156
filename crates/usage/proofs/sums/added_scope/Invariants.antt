use Rattle.usage.specs.laws.Sums.{TenantsInv}
use Rattle.usage.proofs.sums.added_scope.Given as goal

abbrev pub invariant-loop-g : goal.invariant-loop-g
invariant-loop-g l = TenantsInv l.table l.scope l.from l.to l.totals l.now l.g
