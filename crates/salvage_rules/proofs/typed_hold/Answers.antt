-- `typed_hold` meets its contract: by `typed_as`, `typed_left`.
use Rattle.salvage_rules.specs.laws.Rules.{typed_as, typed_left}
use borrow.Author.Rules.{rules}
use Rattle.salvage_rules.proofs.typed_hold.Goals as goal

pub returns-then-holds : goal.returns-then-holds
returns-then-holds c = search (typed_as, rules)

pub returns : goal.returns
returns c = search (typed_as, typed_left, rules)
