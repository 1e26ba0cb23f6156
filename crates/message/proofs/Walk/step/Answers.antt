-- `Walk::step` meets its contract: by the definition, case by case.
use Rattle.lists.specs.laws.Pick.{calls}
use Rattle.message.proofs.Steps.{layout_inside, taken_got}
use Rattle.message.specs.Walk.{step_of}
use borrow.Author.Rules.{rules}
use Rattle.message.proofs.Walk.step.Goals as goal

pub layout_ok-requires : goal.layout_ok-requires
unfolding step_of
layout_ok-requires c = search (calls, layout_inside, taken_got, rules)

pub value_ok-requires : goal.value_ok-requires
unfolding step_of
value_ok-requires c = search (calls, layout_inside, rules)

pub taken_in-requires : goal.taken_in-requires
unfolding step_of
taken_in-requires c = search (calls, layout_inside, rules)

pub returns-then-value_ok : goal.returns-then-value_ok
unfolding step_of
returns-then-value_ok c = search (calls, rules)

pub broken-requires : goal.broken-requires
unfolding step_of
broken-requires c = search (calls, rules)

pub returns : goal.returns
unfolding step_of
returns c = search (calls, rules)
