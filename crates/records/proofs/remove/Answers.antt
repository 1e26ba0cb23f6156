-- `remove` meets its contract: each branch of `remove_with`, from what the calls gave.
use Rattle.std.proofs.Common.{rules}
use Rattle.lists.specs.laws.Part.{unmapped}
use Rattle.records.specs.laws.Steps.{remove_in, remove_none, remove_out}
use Rattle.records.proofs.remove.Goals as goal
use Rattle.records.proofs.remove.Goals.{else-n-eq128-via-then-n-eq128+else-h-lt8, else-n-eq128-via-else-n-eq128}

pub returns-then-h-lt8 : goal.returns-then-h-lt8
returns-then-h-lt8 c = search (remove_in, rules)

pub returns : goal.returns
returns c = elim c.else-n-eq128.branch [ else-n-eq128-via-then-n-eq128+else-h-lt8 w ↦ search (remove_none, unmapped, rules) | else-n-eq128-via-else-n-eq128 w ↦ search (remove_out, unmapped, rules) ]
