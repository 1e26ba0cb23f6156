-- `start_of` meets its contract: by start_is.
use Rattle.proposal.specs.laws.Code.{start_is}
use borrow.Author.Rules.{rules}
use Rattle.proposal.proofs.start_of.Goals as goal

pub returns : goal.returns
returns c = search (start_is, rules)
