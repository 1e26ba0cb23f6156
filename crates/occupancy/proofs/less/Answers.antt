-- `less` meets its contract: with the last lease the owner goes.
use Rattle.std.proofs.Common.{rules}
use Rattle.occupancy.specs.laws.Loop.{less_last, less_more}
use Rattle.occupancy.proofs.less.Goals as goal

pub returns-then-e-le1 : goal.returns-then-e-le1
returns-then-e-le1 c = search (less_last, rules)

pub returns : goal.returns
returns c = search (less_more, rules)
