-- `hex_digit` meets its contract: by the definition, case by case.
use Rattle.lists.specs.laws.Pick.{picks}
use borrow.Author.Rules.{rules}
use Rattle.replay_text.proofs.hex_digit.Goals as goal

pub returns-then-d-lt10 : goal.returns-then-d-lt10
returns-then-d-lt10 c = search (picks, rules)

pub returns : goal.returns
returns c = search (picks, rules)
