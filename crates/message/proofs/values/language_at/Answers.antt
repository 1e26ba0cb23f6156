-- `values::language_at` meets its contract: the octets of the value, as far as they are kept, and the zeros past them.
use Rattle.message.proofs.Steps.{language_is}
use Rattle.std.proofs.Common.{rules}
use Rattle.message.proofs.values.language_at.Goals as goal

pub returns : goal.returns
returns c = search (language_is, rules)
