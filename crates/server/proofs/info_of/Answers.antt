-- `info_of` meets its contract: the four scopes, one after the other.
use Rattle.server.proofs.Steps.{info_is}
use Rattle.std.proofs.Common.{rules}
use Rattle.server.proofs.info_of.Goals as goal

pub returns : goal.returns
returns c = search (info_is, rules)
