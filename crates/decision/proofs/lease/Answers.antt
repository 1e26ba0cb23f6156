-- `lease` meets its contract: by lease-is.
use Rattle.decision.specs.laws.Code.{lease_is}
use borrow.Author.Rules.{rules}
use Rattle.decision.proofs.lease.Goals as goal

pub returns : goal.returns
returns c = search (lease_is, rules)
