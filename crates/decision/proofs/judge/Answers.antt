-- `judge` meets its contract: its tests, which are calls.
use Rattle.decision.specs.Gather.{past_early}
use Rattle.lists.specs.laws.Pick.{calls}
use borrow.Author.Rules.{rules}
use Rattle.decision.proofs.judge.Goals as goal

pub returns-then-is_held_already : goal.returns-then-is_held_already
unfolding past_early
returns-then-is_held_already c = search (calls, rules)

pub returns-then-error_2 : goal.returns-then-error_2
unfolding past_early
returns-then-error_2 c = search (calls, rules)

pub returns-then-error_3 : goal.returns-then-error_3
unfolding past_early
returns-then-error_3 c = search (calls, rules)

pub returns : goal.returns
unfolding past_early
returns c = search (calls, rules)
