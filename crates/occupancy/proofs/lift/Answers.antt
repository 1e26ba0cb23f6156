-- `lift` meets its contract: a fold over the offsets of the set.
use Rattle.occupancy.specs.laws.Loop.{lifted_is, turns}
use borrow.Author.Rules.{rules}
use Rattle.occupancy.proofs.lift.Goals as goal

pub loop-left-init : goal.loop-left-init
loop-left-init c = search (turns, rules)

pub split-o-requires : goal.split-o-requires
split-o-requires c = search (turns, lifted_is, rules)

pub less-requires : goal.less-requires
less-requires c = search (turns, rules)

pub shrink-requires : goal.shrink-requires
shrink-requires c = search (turns, rules)

pub loop-left-preserved : goal.loop-left-preserved
loop-left-preserved c = search (turns, lifted_is, rules)

pub returns : goal.returns
returns c = search (turns, rules)
