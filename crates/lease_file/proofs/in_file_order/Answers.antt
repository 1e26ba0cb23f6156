-- `in_file_order` meets its contract: each tenant's records arranged.
use Rattle.lease_file.specs.laws.Load.{each_turn, filed_order, turns}
use Rattle.std.proofs.Common.{rules}
use Rattle.lease_file.proofs.in_file_order.Goals as goal

pub loop-t-init : goal.loop-t-init
loop-t-init c = search (turns, rules)

pub loop-t-preserved : goal.loop-t-preserved
loop-t-preserved c = each_turn c.loop-t.invariant (search rules) c.arrange.ensures

pub returns : goal.returns
returns c = search (turns, filed_order, rules)
