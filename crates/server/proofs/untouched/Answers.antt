-- `untouched` meets its contract: nothing is edited.
use Rattle.server.proofs.Steps.{untouched_is}
use Rattle.std.proofs.Common.{rules}
use Rattle.server.proofs.untouched.Goals as goal

pub returns : goal.returns
returns c = search (untouched_is, rules)
