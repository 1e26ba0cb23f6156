-- `put_row` meets its contract: the part of the records that is the tenant's.
use Rattle.std.proofs.Common.{rules}
use Rattle.lists.specs.laws.Part.{unmapped}
use Rattle.records.specs.laws.Table.{part_put}
use Rattle.records.proofs.put_row.Goals as goal

pub returns : goal.returns
returns c = search (part_put, unmapped, rules)
