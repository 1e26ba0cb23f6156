-- `check_tenant` meets its contract: by gathered-apart, tenant-checked.
use Rattle.std.proofs.Common.{refl, rules}
use Rattle.soundness.specs.laws.Gathered.{gathered_apart, tenant_checked}
use Rattle.soundness.proofs.tenants.check_tenant.Goals as goal

pub periods_ok-requires : goal.periods_ok-requires
periods_ok-requires c = search (gathered_apart, rules)

pub returns : goal.returns
returns c = tenant_checked c.args.s c.args.t c.pass-p.result c.pass-p.ensures c.rises.ensures refl c.ids_differ.ensures c.periods_ok.ensures refl refl
