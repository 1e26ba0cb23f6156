-- `insert` meets its contract: each branch of `insert_with`, from what the calls gave.
use Rattle.std.proofs.Common.{rules}
use Rattle.lists.specs.laws.Part.{unmapped}
use Rattle.records.specs.laws.Steps.{insert_full, insert_in_law, insert_none, insert_out}
use Rattle.records.proofs.insert.Goals as goal
use Rattle.records.proofs.insert.Goals.{else-n-eq128-via-then-n-eq128+else-h-lt8, else-n-eq128-via-else-n-eq128}

pub returns-then-lease_count-lt16 : goal.returns-then-lease_count-lt16
returns-then-lease_count-lt16 c = search (insert_in_law, rules)

pub returns-else-lease_count-lt16 : goal.returns-else-lease_count-lt16
returns-else-lease_count-lt16 c = search (insert_full, rules)

pub returns-else-n-eq128 : goal.returns-else-n-eq128
returns-else-n-eq128 c = elim c.else-n-eq128.branch [ else-n-eq128-via-then-n-eq128+else-h-lt8 w ↦ search (insert_none, unmapped, rules) | else-n-eq128-via-else-n-eq128 w ↦ search (insert_out, unmapped, rules) ]
