-- `options::layout_ok` meets its contract: by the definition, case by case.
use Rattle.lists.specs.laws.Both.{ands}
use Rattle.message.proofs.Steps.{after_got}
use Rattle.message.specs.Walk.{layout_ok}
use Rattle.std.proofs.Common.{rules}
use Rattle.message.proofs.options.layout_ok.Goals as goal

pub returns-then-at-s : goal.returns-then-at-s
unfolding layout_ok
returns-then-at-s c = search (ands, after_got, rules)

pub returns-else-at-s : goal.returns-else-at-s
unfolding layout_ok
returns-else-at-s c = search (ands, rules)
