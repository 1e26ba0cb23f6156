-- `repeat` meets its contract: its tests, and by gave-way.
use Rattle.decision.specs.Decide.{repeated_of}
use Rattle.decision.specs.laws.Code.{gave_way}
use Rattle.lists.specs.laws.Pick.{calls, picks}
use borrow.Author.Rules.{rules}
use Rattle.decision.proofs.repeat.Goals as goal

pub returns-then-m-eq-DISCOVER : goal.returns-then-m-eq-DISCOVER
unfolding repeated_of
returns-then-m-eq-DISCOVER c = search (calls, picks, rules)

pub returns-then-hold_meets : goal.returns-then-hold_meets
unfolding repeated_of
returns-then-hold_meets c = search (calls, picks, gave_way, rules)

pub returns : goal.returns
unfolding repeated_of
returns c = search (calls, picks, rules)
