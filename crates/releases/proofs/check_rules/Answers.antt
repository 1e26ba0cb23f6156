-- `check_rules` meets its contract: the rules of each tenant, gathered.
use Rattle.std.proofs.Common.{rules}
use Rattle.releases.specs.laws.Tenants.{memories, own_rules}
use Rattle.releases.proofs.check_rules.Goals as goal

pub loop-h-init : goal.loop-h-init
loop-h-init c = search (memories, rules)

pub loop-h-preserved : goal.loop-h-preserved
loop-h-preserved c = search (memories, own_rules, rules)

pub returns : goal.returns
returns c = search (memories, rules)
