-- `verdict_in` meets its contract: field by field.
use Rattle.verdict_octets.specs.laws.Octets.{verdict_is}
use borrow.Author.Rules.{rules}
use Rattle.verdict_octets.proofs.verdict_in.Goals as goal

pub returns : goal.returns
returns c = search (verdict_is, rules)
