use Rattle.std.proofs.Common.{length}
use Rattle.lists.specs.Fold.{fold}
use Rattle.lists.specs.laws.Fold.{FoldInv}
use Rattle.state.specs.Book.{board_with}
use Rattle.state.specs.laws.Layout.{no_lease}
use Rattle.agreement.proofs.add_tenant.Given as goal

abbrev pub invariant-loop-l : goal.invariant-loop-l
invariant-loop-l l = FoldInv (board_with l.h) no_lease l.own (length l.own) (fold (board_with l.h) l.initial.now l.own) l.now l.l-index
