-- `lease_from` meets its contract: by lease-from-is.
use Rattle.proposal.specs.laws.Code.{lease_from_is}
use borrow.Author.Rules.{rules}
use Rattle.proposal.proofs.lease_from.Goals as goal

pub returns : goal.returns
returns c = search (lease_from_is, rules)
