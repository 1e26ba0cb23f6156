-- `new_with` meets its contract: by new-with-is.
use Rattle.proposal.specs.laws.Code.{new_with_is}
use borrow.Author.Rules.{rules}
use Rattle.proposal.proofs.new_with.Goals as goal

pub returns : goal.returns
returns c = search (new_with_is, rules)
