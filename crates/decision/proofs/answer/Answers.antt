-- `answer` meets its contract: its tests, which are calls.
use Rattle.decision.specs.Gather.{past_errors}
use Rattle.lists.specs.laws.Pick.{calls}
use borrow.Author.Rules.{rules}
use Rattle.decision.proofs.answer.Goals as goal

pub returns-then-is_for_hold : goal.returns-then-is_for_hold
unfolding past_errors
returns-then-is_for_hold c = search (calls, rules)

pub returns-then-has_period : goal.returns-then-has_period
unfolding past_errors
returns-then-has_period c = search (calls, rules)

pub returns : goal.returns
unfolding past_errors
returns c = search (calls, rules)
