use Rattle.allocation.specs.Loops.{count_at}
use Rattle.lists.specs.Sums.{except}
use Rattle.lists.specs.laws.Sums.{SumInv}
use Rattle.state.specs.Book.{committed}
use Rattle.allocation.proofs.others.Given as goal

abbrev pub invariant-loop-g : goal.invariant-loop-g
invariant-loop-g l = SumInv (except l.h (committed l.c (count_at l.sets))) l.n l.sum l.g
