-- `look_up_if` meets its contract: the lookup, or none.
use Rattle.decision.specs.Gather.{looked_up}
use Rattle.decision.specs.laws.Count.{found_few, none_few}
use Rattle.lists.specs.laws.Part.{unmapped}
use Rattle.lists.specs.laws.Pick.{tests}
use borrow.Author.Rules.{rules}
use Rattle.decision.proofs.look_up_if.Goals as goal

pub returns-then-asks : goal.returns-then-asks
unfolding looked_up
returns-then-asks c = search (tests, found_few, unmapped, rules)

pub returns : goal.returns
unfolding looked_up
returns c = search (tests, none_few, rules)
