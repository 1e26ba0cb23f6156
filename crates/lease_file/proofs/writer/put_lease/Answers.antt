-- `writer::put_lease` meets its contract: by `lease_size`, `lease_wrote`.
use Rattle.std.proofs.Common.{arith, rules}
use Rattle.lease_file.specs.laws.Rows.{lease_size, lease_wrote}
use Rattle.lease_file.proofs.writer.put_lease.Goals as goal

pub put_head-a-requires : goal.put_head-a-requires
put_head-a-requires c = let l = c.args.l in let e = lease_size c.args.tenant l in omega arith

pub put_middle-b-requires : goal.put_middle-b-requires
put_middle-b-requires c = let l = c.args.l in let e = lease_size c.args.tenant l in omega (arith, c.put_head-a.ensures.next)

pub put_addresses-requires : goal.put_addresses-requires
put_addresses-requires c = let l = c.args.l in let e = lease_size c.args.tenant l in omega (arith, c.put_head-a.ensures.next, c.put_middle-b.ensures.next)

pub returns : goal.returns
returns c = lease_wrote c.args.tenant c.args.l (search rules) c.put_head-a.ensures c.put_middle-b.ensures c.put_addresses.ensures
