use Rattle.reply.proofs.Writes.{CountInv}
use Rattle.reply.proofs.range_count.Given as goal

abbrev pub invariant-loop-left : goal.invariant-loop-left
invariant-loop-left l = CountInv l.set l.left l.n

abbrev pub decreases-loop-left : goal.decreases-loop-left
decreases-loop-left l = l.left
