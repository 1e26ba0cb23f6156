-- `same_range` meets its contract: by its tests.
use Rattle.lists.specs.laws.Both.{ands}
use Rattle.usage.specs.Usage.{same_range}
use Rattle.std.proofs.Common.{eq-eqb, ne_eqb, rules}
use Rattle.usage.proofs.settings.same_range.Goals as goal

pub returns-then-a-b : goal.returns-then-a-b
unfolding same_range
returns-then-a-b c = search (ands, ne_eqb, eq-eqb, rules)

pub returns-else-a-b : goal.returns-else-a-b
unfolding same_range
returns-else-a-b c = search (ands, ne_eqb, eq-eqb, rules)
