-- `grant_known` meets its contract: the parts of the grant by their calls.
use Rattle.allocation.specs.laws.Loops.{grant_is}
use Rattle.std.proofs.Common.{rules}
use Rattle.allocation.proofs.grant_known.Goals as goal

pub returns : goal.returns
returns c = search (grant_is, rules)
