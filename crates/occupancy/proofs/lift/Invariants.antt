use Rattle.address_set.specs.AddressSet.{offsets}
use Rattle.lists.specs.Fold.{fold}
use Rattle.occupancy.specs.Board.{lifted_off}
use Rattle.occupancy.specs.laws.Loop.{OffsetsInv}
use Rattle.occupancy.proofs.lift.Given as goal

abbrev pub invariant-loop-left : goal.invariant-loop-left
invariant-loop-left l = OffsetsInv (lifted_off l.g) (fold (lifted_off l.g) l.initial.now (offsets l.initial.left)) l.now l.left

abbrev pub decreases-loop-left : goal.decreases-loop-left
decreases-loop-left l = l.left
