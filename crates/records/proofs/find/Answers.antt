-- `find` meets its contract: each branch of `find_with`, from what the calls gave.
use Rattle.std.proofs.Common.{rules}
use Rattle.records.specs.laws.Steps.{find_in, find_none, find_out}
use Rattle.records.proofs.find.Goals as goal
use Rattle.records.proofs.find.Goals.{else-n-eq128-via-then-n-eq128+else-h-lt8, else-n-eq128-via-else-n-eq128}

pub returns-then-h-lt8 : goal.returns-then-h-lt8
returns-then-h-lt8 c = search (find_in, rules)

pub returns : goal.returns
returns c = elim c.else-n-eq128.branch [ else-n-eq128-via-then-n-eq128+else-h-lt8 w ↦ search (find_none, rules) | else-n-eq128-via-else-n-eq128 w ↦ search (find_out, rules) ]
