-- `split` meets its contract: the lowest offset and the others.
use Rattle.occupancy.specs.laws.Loop.{splits}
use borrow.Author.Rules.{rules}
use Rattle.occupancy.proofs.split.Goals as goal

pub returns : goal.returns
returns c = search (splits, rules)
