-- `shrink` meets its contract: by its tests.
use Rattle.lists.specs.laws.Pick.{picks}
use Rattle.occupancy.specs.Board.{shrunk}
use borrow.Author.Rules.{rules}
use Rattle.occupancy.proofs.shrink.Goals as goal

pub returns-then-count-le1 : goal.returns-then-count-le1
unfolding shrunk
returns-then-count-le1 c = search (picks, rules)

pub returns : goal.returns
unfolding shrunk
returns c = search (picks, rules)
