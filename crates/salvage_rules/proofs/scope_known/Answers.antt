-- `scope_known` meets its contract: by `scope_none`, `scope_some`.
use Rattle.std.proofs.Common.{rules}
use Rattle.salvage_rules.specs.laws.Rules.{scope_none, scope_some}
use Rattle.salvage_rules.proofs.scope_known.Goals as goal

pub returns-then-c-ge1 : goal.returns-then-c-ge1
returns-then-c-ge1 c = search (scope_some, rules)

pub returns-else-c-ge1 : goal.returns-else-c-ge1
returns-else-c-ge1 c = search (scope_none, rules)
