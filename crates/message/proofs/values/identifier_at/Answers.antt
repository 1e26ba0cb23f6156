-- `values::identifier_at` meets its contract: the octets of the value, and the zeros past them.
use Rattle.message.proofs.Steps.{identifier_is}
use Rattle.std.proofs.Common.{rules}
use Rattle.message.proofs.values.identifier_at.Goals as goal

pub returns : goal.returns
returns c = search (identifier_is, rules)
