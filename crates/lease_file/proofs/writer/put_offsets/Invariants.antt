use Rattle.address_set.specs.AddressSet.{offsets}
use Rattle.lease_file.specs.laws.Sets.{OffsetsInv}
use Rattle.std.proofs.Common.{length}
use Rattle.lease_file.proofs.writer.put_offsets.Given as goal

abbrev pub invariant-loop-left : goal.invariant-loop-left
invariant-loop-left l = OffsetsInv l.set l.initial.buffer l.at l.buffer l.to l.left

abbrev pub decreases-loop-left : goal.decreases-loop-left
decreases-loop-left l = length (offsets l.left)
