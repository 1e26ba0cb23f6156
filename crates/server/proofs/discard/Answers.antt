-- `discard` meets its contract: field by field.
use Rattle.server.proofs.Steps.{discard_is}
use Rattle.std.proofs.Common.{rules}
use Rattle.server.proofs.discard.Goals as goal

pub returns : goal.returns
returns c = search (discard_is, rules)
