-- `same` meets its contract: the same where the order says so.
use Rattle.identifier.specs.laws.Order.{same_order}
use borrow.Author.Rules.{rules}
use Rattle.identifier.proofs.same.Goals as goal

pub returns : goal.returns
returns c = search (same_order, rules)
