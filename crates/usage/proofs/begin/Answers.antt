-- `begin` meets its contract: by `begun_ok`, `begun_err`.
use Rattle.std.proofs.Common.{rules}
use Rattle.usage.specs.laws.Steps.{begun_err, begun_ok}
use Rattle.usage.proofs.begin.Goals as goal

pub returns-in-Ok : goal.returns-in-Ok
returns-in-Ok c = search (begun_ok, rules)

pub returns-in-Err : goal.returns-in-Err
returns-in-Err c = search (begun_err, rules)
