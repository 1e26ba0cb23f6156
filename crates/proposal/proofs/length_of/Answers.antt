-- `length_of` meets its contract: by length-is.
use Rattle.proposal.specs.laws.Code.{length_is}
use borrow.Author.Rules.{rules}
use Rattle.proposal.proofs.length_of.Goals as goal

pub returns : goal.returns
returns c = search (length_is, rules)
