-- `split_run` meets its contract: the first range and the offsets behind it.
use Rattle.occupancy.specs.laws.Loop.{runs}
use borrow.Author.Rules.{rules}
use Rattle.occupancy.proofs.split_run.Goals as goal

pub returns : goal.returns
returns c = search (runs, rules)
