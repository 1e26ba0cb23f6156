-- `is_named` meets its contract: by `named_none`, `named_nowhere`, `named_there`.
use Rattle.std.proofs.Common.{rules}
use Rattle.salvage_rules.specs.laws.Rules.{named_none, named_nowhere, named_there}
use Rattle.salvage_rules.proofs.is_named.Goals as goal

pub returns-then-scope_known : goal.returns-then-scope_known
returns-then-scope_known c = search (named_there, rules)

pub returns-else-scope_known : goal.returns-else-scope_known
returns-else-scope_known c = search (named_none, named_nowhere, rules)
