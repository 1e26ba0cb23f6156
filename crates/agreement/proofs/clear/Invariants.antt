use Rattle.std.proofs.Common.{length}
use Rattle.lists.specs.Fold.{fold}
use Rattle.lists.specs.laws.Fold.{FoldInv}
use Rattle.state.specs.Book.{board_without}
use Rattle.state.specs.laws.Layout.{no_lease}
use Rattle.agreement.proofs.clear.Given as goal

abbrev pub invariant-loop-l : goal.invariant-loop-l
invariant-loop-l l = FoldInv (board_without l.h) no_lease l.ended (length l.ended) (fold (board_without l.h) l.initial.now l.ended) l.now l.l-index
