use Prim.Native.Nat.{◌-◌}
use Rattle.message.proofs.Steps.{Left, rank}
use lib.ListN.{length}
use Rattle.message.proofs.options.walk_options.Given as goal

abbrev pub invariant-loop-w : goal.invariant-loop-w
invariant-loop-w l = Left l.s l.w

abbrev pub decreases-loop-w : goal.decreases-loop-w
decreases-loop-w l = rank l.w.stage (length l.s - l.w.at)
