-- `may_have` meets its contract: by `may_hold`, `may_lease`.
use Rattle.std.proofs.Common.{rules}
use Rattle.salvage_rules.specs.laws.Rules.{may_hold, may_lease}
use Rattle.salvage_rules.proofs.may_have.Goals as goal

pub returns-then-holds : goal.returns-then-holds
returns-then-holds c = search (may_hold, rules)

pub returns-else-holds : goal.returns-else-holds
returns-else-holds c = search (may_lease, rules)
