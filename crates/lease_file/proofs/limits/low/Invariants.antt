use Rattle.lease_file.specs.laws.Limits.{LowInv}
use Rattle.lease_file.proofs.limits.low.Given as goal

abbrev pub invariant-loop-x : goal.invariant-loop-x
invariant-loop-x l = LowInv l.offsets l.any l.x-index
