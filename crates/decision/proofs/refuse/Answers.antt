-- `refuse` meets its contract: by unchanged-is.
use Rattle.decision.specs.laws.Code.{unchanged_is}
use borrow.Author.Rules.{rules}
use Rattle.decision.proofs.refuse.Goals as goal

pub returns : goal.returns
returns c = search (unchanged_is, rules)
