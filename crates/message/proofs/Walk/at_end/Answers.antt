-- `Walk::at_end` meets its contract: by the definition, case by case.
use Rattle.lists.specs.laws.Pick.{picks}
use borrow.Author.Rules.{rules}
use Rattle.message.proofs.Walk.at_end.Goals as goal

pub returns-then-self-size : goal.returns-then-self-size
returns-then-self-size c = search (picks, rules)

pub broken-requires : goal.broken-requires
broken-requires c = search (picks, rules)

pub returns : goal.returns
returns c = search (picks, rules)
