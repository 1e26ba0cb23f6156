-- `put_tenant` meets its contract: its loop keeps `RowInv`; by `entry_rows`, `used_start`, `used_end`.
use Rattle.lease_file.specs.Rows.{entry_octets}
use Rattle.lease_file.specs.laws.Rows.{entry_rows, used_end, used_start}
use Rattle.lists.specs.laws.Part.{unmapped}
use Rattle.std.proofs.Common.{rules}
use Rattle.lease_file.proofs.writer.put_tenant.Goals as goal

pub loop-l-init : goal.loop-l-init
loop-l-init c = used_start c.args.t (search (unmapped, rules)) c.min.ensures (entry_octets c.args.holds c.args.tenant) c.requires

pub put_if-to-requires : goal.put_if-to-requires
put_if-to-requires c = search (entry_rows, rules)

pub loop-l-preserved : goal.loop-l-preserved
loop-l-preserved c = search (entry_rows, rules)

pub returns : goal.returns
returns c = used_end c.args.t (search (unmapped, rules)) c.min.ensures (entry_octets c.args.holds c.args.tenant) c.loop-l.invariant c.loop-l-test.false
