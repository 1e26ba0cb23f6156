use Rattle.usage.specs.laws.Sums.{ScopesInv}
use Rattle.usage.proofs.sums.added.Given as goal

abbrev pub invariant-loop-k : goal.invariant-loop-k
invariant-loop-k l = ScopesInv l.table l.from l.to l.totals l.now l.k
