-- `put_addresses` meets its contract: by `addresses_wrote`.
use Rattle.address_set.specs.laws.Bits.{length_offsets}
use Rattle.lease_file.specs.laws.Rows.{addresses_wrote}
use Rattle.std.proofs.Common.{rules, arith}
use Rattle.lease_file.proofs.writer.put_addresses.Goals as goal

pub overflow_cast-count : goal.overflow_cast-count
overflow_cast-count c = let l = length_offsets c.args.set in omega (arith, c.count.ensures)

pub returns : goal.returns
returns c = addresses_wrote c.args.set (search rules) c.count.ensures c.put_u8-a.ensures c.put_offsets.ensures
