-- `new_lease` meets its contract: by new_is.
use Rattle.proposal.specs.laws.Code.{new_is}
use borrow.Author.Rules.{rules}
use Rattle.proposal.proofs.new_lease.Goals as goal

pub returns : goal.returns
returns c = search (new_is, rules)
