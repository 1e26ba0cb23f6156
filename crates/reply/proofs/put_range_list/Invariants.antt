use Rattle.reply.proofs.Writes.{RangesInv}
use Rattle.reply.proofs.put_range_list.Given as goal

abbrev pub invariant-loop-left : goal.invariant-loop-left
invariant-loop-left l = RangesInv l.initial.buffer l.at l.lowest l.set l.buffer l.left l.to

abbrev pub decreases-loop-left : goal.decreases-loop-left
decreases-loop-left l = l.left
