-- `settle` meets its contract: its tests, and by leased-is.
use Rattle.decision.specs.Decide.{settled_of}
use Rattle.decision.specs.laws.Code.{leased_is}
use Rattle.lists.specs.laws.Pick.{calls}
use borrow.Author.Rules.{rules}
use Rattle.decision.proofs.settle.Goals as goal

pub returns-then-error_0 : goal.returns-then-error_0
unfolding settled_of
returns-then-error_0 c = search (calls, rules)

pub returns : goal.returns
unfolding settled_of
returns c = search (calls, leased_is, rules)
