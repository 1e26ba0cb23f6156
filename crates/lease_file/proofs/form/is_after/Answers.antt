-- `form::is_after` meets its contract: by `after_more`, `after_told`, `after_less`.
use Rattle.lease_file.specs.laws.Form.{after_less, after_more, after_told}
use Rattle.std.proofs.Common.{rules}
use Rattle.lease_file.proofs.form.is_after.Goals as goal

pub returns-then-t-tenant : goal.returns-then-t-tenant
returns-then-t-tenant c = after_more _ _ _ _ c.if-t-tenant.true

pub returns-then-t-tenant-2 : goal.returns-then-t-tenant-2
returns-then-t-tenant-2 c = search (after_told, rules)

pub returns-else-t-tenant-2 : goal.returns-else-t-tenant-2
returns-else-t-tenant-2 c = after_less _ _ _ _ c.if-t-tenant.false c.if-t-tenant-2.false
