-- `take` meets its contract: field by field.
use Rattle.verdict_octets.specs.laws.Octets.{ruling_is}
use borrow.Author.Rules.{rules}
use Rattle.verdict_octets.proofs.take.Goals as goal

pub returns : goal.returns
returns c = search (ruling_is, rules)
