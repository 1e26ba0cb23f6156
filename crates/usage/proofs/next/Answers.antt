-- `next` meets its contract: by `next_ok`, `next_late`, `next_err`.
use Rattle.std.proofs.Common.{rules}
use Rattle.usage.specs.laws.Steps.{next_err, next_late, next_ok}
use Rattle.usage.proofs.next.Goals as goal

pub returns-then-follows : goal.returns-then-follows
returns-then-follows c = search (next_ok, rules)

pub returns-else-follows : goal.returns-else-follows
returns-else-follows c = search (next_late, rules)

pub returns-in-Err : goal.returns-in-Err
returns-in-Err c = search (next_err, rules)
