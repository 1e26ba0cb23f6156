-- `total` meets its contract: its loop keeps `SizeInv`; by `sizes`.
use Rattle.format.specs.laws.Rows.{sizes}
use Rattle.std.proofs.Common.{rules}
use Rattle.lease_file.proofs.sizes.total.Goals as goal

pub loop-t-init : goal.loop-t-init
loop-t-init c = search (sizes, rules)

pub loop-t-preserved : goal.loop-t-preserved
loop-t-preserved c = search (sizes, rules)

pub returns : goal.returns
returns c = search (sizes, rules)
