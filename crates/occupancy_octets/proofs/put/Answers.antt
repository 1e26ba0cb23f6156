-- `put` meets its contract: scope by scope.
use Rattle.occupancy_octets.specs.laws.Octets.{scope_rows}
use borrow.Author.Rules.{rules}
use Rattle.occupancy_octets.proofs.put.Goals as goal

pub loop-v-init : goal.loop-v-init
loop-v-init c = search (scope_rows, rules)

pub put_scope-to-requires : goal.put_scope-to-requires
put_scope-to-requires c = search (scope_rows, rules)

pub loop-v-preserved : goal.loop-v-preserved
loop-v-preserved c = search (scope_rows, rules)

pub returns : goal.returns
returns c = search (scope_rows, rules)
