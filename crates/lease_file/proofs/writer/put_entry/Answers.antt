-- `put_entry` meets its contract: by `entry_wrote`.
use Rattle.lease_file.specs.laws.Rows.{entry_long, entry_wrote}
use Rattle.std.proofs.Common.{rules, arith}
use Rattle.lease_file.proofs.writer.put_entry.Goals as goal

pub put_lease-a-requires : goal.put_lease-a-requires
put_lease-a-requires c = let e = entry_long c.args.holds c.args.tenant c.args.l in search rules

pub put_lapse-requires : goal.put_lapse-requires
put_lapse-requires c = let e = entry_long c.args.holds c.args.tenant c.args.l in omega (arith, c.put_lease-a.ensures.next)

pub returns : goal.returns
returns c = entry_wrote c.args.holds c.args.tenant c.args.l (search rules) c.put_lease-a.ensures c.put_lapse.ensures
