-- `add_tenant` meets its contract: by tenant-added.
use Rattle.soundness.specs.laws.Survey.{tenant_added}
use borrow.Author.Rules.{rules}
use Rattle.soundness.proofs.add_tenant.Goals as goal

pub returns : goal.returns
returns c = search (tenant_added, rules)
