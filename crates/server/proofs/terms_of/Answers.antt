-- `terms_of` meets its contract: field by field.
use Rattle.server.proofs.Steps.{terms_is}
use Rattle.std.proofs.Common.{rules}
use Rattle.server.proofs.terms_of.Goals as goal

pub returns : goal.returns
returns c = search (terms_is, rules)
