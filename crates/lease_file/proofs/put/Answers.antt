-- `put` meets its contract: by `table_wrote`.
use Rattle.lease_file.specs.laws.Rows.{section_length, table_wrote}
use Rattle.lists.specs.laws.Part.{unmapped}
use Rattle.std.proofs.Common.{rules, arith}
use Rattle.lease_file.proofs.put.Goals as goal

pub put_u8-a-requires : goal.put_u8-a-requires
put_u8-a-requires c = let l = section_length c.args.holds c.args.table (search (unmapped, rules)) in omega arith

pub put_records-requires : goal.put_records-requires
put_records-requires c = let l = section_length c.args.holds c.args.table (search (unmapped, rules)) in omega (arith, c.put_u8-a.ensures.next)

pub returns : goal.returns
returns c = table_wrote c.args.holds c.args.table (search (unmapped, rules)) (search rules) c.total.ensures.0 c.put_u8-a.ensures c.put_records.ensures
