-- `plain` meets its contract: its tests in order.
use Rattle.decision.specs.Decide.{plain_of}
use Rattle.lists.specs.laws.Pick.{picks}
use borrow.Author.Rules.{rules}
use Rattle.decision.proofs.plain.Goals as goal

pub returns-then-m-eq-RELEASE : goal.returns-then-m-eq-RELEASE
unfolding plain_of
returns-then-m-eq-RELEASE c = search (picks, rules)

pub returns : goal.returns
unfolding plain_of
returns c = search (picks, rules)
