-- `options::value_ok` meets its contract: by the definition, case by case.
use Rattle.lists.specs.laws.Both.{joins}
use Rattle.lists.specs.laws.Pick.{gots}
use Rattle.message.proofs.Steps.{filled_got, length_got}
use Rattle.message.specs.Walk.{value_ok}
use borrow.Author.Rules.{rules}
use Rattle.message.proofs.options.value_ok.Goals as goal

pub read_u16-code-requires : goal.read_u16-code-requires
unfolding value_ok
read_u16-code-requires c = search (joins, gots, length_got, filled_got, rules)

pub length_ok-requires : goal.length_ok-requires
unfolding value_ok
length_ok-requires c = search (joins, gots, rules)

pub exactly_filled-requires : goal.exactly_filled-requires
unfolding value_ok
exactly_filled-requires c = search (joins, gots, length_got, filled_got, rules)

pub returns-else-code-ne-FEATURES : goal.returns-else-code-ne-FEATURES
unfolding value_ok
returns-else-code-ne-FEATURES c = search (joins, gots, length_got, filled_got, rules)

pub returns-then-code-ne-FEATURES : goal.returns-then-code-ne-FEATURES
unfolding value_ok
returns-then-code-ne-FEATURES c = search (joins, gots, length_got, rules)

pub returns-else-length_ok : goal.returns-else-length_ok
unfolding value_ok
returns-else-length_ok c = search (joins, gots, length_got, rules)
