-- `put_records` meets its contract: its loop keeps `RowInv`; by `tenant_rows`.
use Rattle.lease_file.specs.laws.Rows.{tenant_rows}
use Rattle.std.proofs.Common.{rules}
use Rattle.lease_file.proofs.writer.put_records.Goals as goal

pub loop-i-init : goal.loop-i-init
loop-i-init c = search (tenant_rows, rules)

pub put_tenant-to-requires : goal.put_tenant-to-requires
put_tenant-to-requires c = search (tenant_rows, rules)

pub loop-i-preserved : goal.loop-i-preserved
loop-i-preserved c = search (tenant_rows, rules)

pub returns : goal.returns
returns c = search (tenant_rows, rules)
