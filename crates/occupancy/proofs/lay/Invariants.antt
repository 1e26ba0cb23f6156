use Rattle.address_set.specs.AddressSet.{offsets}
use Rattle.lists.specs.Fold.{fold}
use Rattle.occupancy.specs.Board.{laid_on}
use Rattle.occupancy.specs.laws.Loop.{OffsetsInv, RangeInv}
use Rattle.occupancy.proofs.lay.Given as goal

abbrev pub invariant-loop-a : goal.invariant-loop-a
invariant-loop-a l = RangeInv l.g l.initial.now l.r.first l.r.end l.now l.a l.gains

abbrev pub invariant-loop-left : goal.invariant-loop-left
invariant-loop-left l = OffsetsInv (laid_on l.g) (fold (laid_on l.g) l.initial.now (offsets l.initial.left)) l.now l.left

abbrev pub decreases-loop-left : goal.decreases-loop-left
decreases-loop-left l = l.left
