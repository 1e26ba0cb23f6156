-- `granted` meets its contract: its test, on the number of tenants.
use Rattle.allocation.specs.laws.Loops.{granted_known, granted_unknown}
use Rattle.std.proofs.Common.{rules}
use Rattle.allocation.proofs.granted.Goals as goal

pub returns-then-a-known : goal.returns-then-a-known
returns-then-a-known c = search (granted_known, rules)

pub returns : goal.returns
returns c = search (granted_unknown, rules)
