use Rattle.lists.specs.laws.Sums.{SumInv}
use Rattle.state.specs.Book.{reserve_at}
use Rattle.soundness.proofs.settings.reserves.Given as goal

abbrev pub invariant-loop-g : goal.invariant-loop-g
invariant-loop-g l = SumInv (reserve_at l.c) l.n l.sum l.g
