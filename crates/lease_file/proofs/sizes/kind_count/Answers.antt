-- `kind_count` meets its contract: its loop keeps `SizeInv`; by `sizes`, `kinds_counted`.
use Rattle.format.specs.laws.Rows.{sizes}
use Rattle.lease_file.specs.laws.Rows.{kinds_counted}
use Rattle.lists.specs.laws.Part.{unmapped}
use Rattle.std.proofs.Common.{rules}
use Rattle.lease_file.proofs.sizes.kind_count.Goals as goal

pub loop-l-init : goal.loop-l-init
loop-l-init c = search (sizes, rules)

pub loop-l-preserved : goal.loop-l-preserved
loop-l-preserved c = search (sizes, rules)

pub returns : goal.returns
returns c = kinds_counted c.args.holds c.args.t (search (unmapped, rules)) c.min.ensures c.loop-l.invariant c.loop-l-test.false
