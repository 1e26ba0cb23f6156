-- `new_at` meets its contract: by new-at-is.
use Rattle.proposal.specs.laws.Code.{new_at_is}
use borrow.Author.Rules.{rules}
use Rattle.proposal.proofs.new_at.Goals as goal

pub returns : goal.returns
returns c = search (new_at_is, rules)
