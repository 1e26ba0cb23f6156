-- `language_in` meets its contract: field by field.
use Rattle.verdict_octets.specs.laws.Octets.{language_is}
use borrow.Author.Rules.{rules}
use Rattle.verdict_octets.proofs.language_in.Goals as goal

pub returns : goal.returns
returns c = search (language_is, rules)
