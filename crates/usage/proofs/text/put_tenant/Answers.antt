-- `put_tenant` meets its contract: by `tenant_wrote`.
use Rattle.usage.specs.laws.Text.{tenant_wrote}
use Rattle.std.proofs.Common.{rules}
use Rattle.usage.proofs.text.put_tenant.Goals as goal

pub returns : goal.returns
returns c = search (tenant_wrote, rules)
