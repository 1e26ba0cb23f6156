use Rattle.address_set.specs.laws.Bits.{LowInv}
use Rattle.address_set.proofs.lowest.Given as goal

abbrev pub invariant-loop-at : goal.invariant-loop-at
invariant-loop-at l = LowInv l.set l.n l.out l.left l.at
