-- `rows_size` meets its contract: its loop keeps `SizeInv`; by `sizes`, `rows_length`.
use Rattle.format.specs.laws.Rows.{sizes}
use Rattle.lease_file.specs.laws.Rows.{rows_length}
use Rattle.std.proofs.Common.{rules}
use Rattle.lease_file.proofs.sizes.rows_size.Goals as goal

pub loop-t-init : goal.loop-t-init
loop-t-init c = search (sizes, rules)

pub loop-t-preserved : goal.loop-t-preserved
loop-t-preserved c = search (sizes, rules)

pub returns : goal.returns
returns c = search (sizes, rows_length, rules)
