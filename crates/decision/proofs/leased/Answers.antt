-- `leased` meets its contract: its tests, and by edited-as.
use Rattle.decision.specs.Decide.{leased_of}
use Rattle.decision.specs.laws.Code.{edited_as}
use Rattle.lists.specs.laws.Pick.{picks}
use borrow.Author.Rules.{rules}
use Rattle.decision.proofs.leased.Goals as goal

pub returns-then-m-eq-DISCOVER : goal.returns-then-m-eq-DISCOVER
unfolding leased_of
returns-then-m-eq-DISCOVER c = search (picks, rules)

pub returns-then-m-eq-REQUEST : goal.returns-then-m-eq-REQUEST
unfolding leased_of
returns-then-m-eq-REQUEST c = search (picks, edited_as, rules)

pub returns : goal.returns
unfolding leased_of
returns c = search (picks, edited_as, rules)
