-- `row_at` meets its contract: the part of the records that is the tenant's.
use Rattle.std.proofs.Common.{◌∙◌}
use Rattle.records.specs.laws.Table.{row_part}
use Rattle.records.proofs.row_at.Goals as goal

pub returns : goal.returns
returns c = c.tenant_from.ensures ∙ row_part c.args.leases.now c.requires c.copy_from_slice.ensures.after
