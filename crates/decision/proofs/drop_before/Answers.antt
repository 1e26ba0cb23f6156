-- `drop_before` meets its contract: the drop where there is a hold, and by drop-before-is.
use Rattle.decision.specs.Decide.{dropped_first}
use Rattle.decision.specs.laws.Code.{drop_before_is}
use borrow.Author.Rules.{rules}
use Rattle.decision.proofs.drop_before.Goals as goal

pub returns-in_default : goal.returns-in_default
unfolding dropped_first
returns-in_default c = search rules

pub returns : goal.returns
unfolding dropped_first
returns c = search (drop_before_is, rules)
