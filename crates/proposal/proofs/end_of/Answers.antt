-- `end_of` meets its contract: by end_is.
use Rattle.proposal.specs.laws.Code.{end_is}
use borrow.Author.Rules.{rules}
use Rattle.proposal.proofs.end_of.Goals as goal

pub returns : goal.returns
returns c = search (end_is, rules)
