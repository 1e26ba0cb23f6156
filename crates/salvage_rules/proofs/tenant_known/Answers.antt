-- `tenant_known` meets its contract: by `tenant_none`, `tenant_some`.
use Rattle.std.proofs.Common.{rules}
use Rattle.salvage_rules.specs.laws.Rules.{tenant_none, tenant_some}
use Rattle.salvage_rules.proofs.tenant_known.Goals as goal

pub returns-then-t-ge1 : goal.returns-then-t-ge1
returns-then-t-ge1 c = search (tenant_some, rules)

pub returns-else-t-ge1 : goal.returns-else-t-ge1
returns-else-t-ge1 c = search (tenant_none, rules)
