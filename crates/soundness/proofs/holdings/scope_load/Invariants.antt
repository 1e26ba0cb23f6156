use Rattle.lists.specs.laws.Sums.{SumInv}
use Rattle.soundness.specs.Parts.{count_in, limit_in}
use Rattle.soundness.specs.laws.Code.{FlagInv}
use Rattle.state.specs.Book.{committed}
use Rattle.soundness.proofs.holdings.scope_load.Given as goal

abbrev pub invariant-loop-g : goal.invariant-loop-g
invariant-loop-g l = FlagInv (limit_in l.h l.c l.k) l.n l.within l.g × SumInv (committed l.c (count_in l.h l.k)) l.n l.sum l.g
