-- `same_scopes` meets its contract: a loop over two arrays.
use Rattle.lists.specs.laws.Same.{sames}
use Rattle.std.proofs.Common.{rules}
use Rattle.usage.proofs.settings.same_scopes.Goals as goal

pub loop-k-init : goal.loop-k-init
loop-k-init c = search (sames, rules)

pub returns-then-not-same_scope : goal.returns-then-not-same_scope
returns-then-not-same_scope c = search (sames, rules)

pub loop-k-preserved : goal.loop-k-preserved
loop-k-preserved c = search (sames, rules)

pub returns : goal.returns
returns c = search (sames, rules)
