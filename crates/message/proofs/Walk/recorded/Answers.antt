-- `Walk::recorded` meets its contract: by the definition, case by case.
use Rattle.lists.specs.laws.Pick.{picks}
use borrow.Author.Rules.{rules}
use Rattle.message.proofs.Walk.recorded.Goals as goal

pub returns-then-p-code-eq0 : goal.returns-then-p-code-eq0
returns-then-p-code-eq0 c = search (picks, rules)

pub broken-requires : goal.broken-requires
broken-requires c = search (picks, rules)

pub returns : goal.returns
returns c = search (picks, rules)
