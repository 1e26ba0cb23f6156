-- `tenant_size` meets its contract: its loop keeps `SizeInv`; by `sizes`, `sizes_counted`.
use Rattle.format.specs.laws.Rows.{sizes}
use Rattle.lease_file.specs.Rows.{entry_octets}
use Rattle.lease_file.specs.laws.Rows.{sizes_counted}
use Rattle.lists.specs.laws.Part.{unmapped}
use Rattle.std.proofs.Common.{rules}
use Rattle.lease_file.proofs.sizes.tenant_size.Goals as goal

pub loop-l-init : goal.loop-l-init
unfolding entry_octets
loop-l-init c = search (sizes, rules)

pub loop-l-preserved : goal.loop-l-preserved
unfolding entry_octets
loop-l-preserved c = search (sizes, rules)

pub returns : goal.returns
returns c = sizes_counted c.args.holds c.args.t (search (unmapped, rules)) c.min.ensures c.loop-l.invariant c.loop-l-test.false
