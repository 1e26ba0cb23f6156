-- `same_counts` meets its contract: by its tests.
use Rattle.lists.specs.laws.Both.{ands}
use Rattle.usage.specs.Usage.{same_counts}
use Rattle.std.proofs.Common.{eq-eqb, ne_eqb, rules}
use Rattle.usage.proofs.settings.same_counts.Goals as goal

pub returns-then-a-b-2 : goal.returns-then-a-b-2
unfolding same_counts
returns-then-a-b-2 c = search (ands, ne_eqb, eq-eqb, rules)

pub returns-else-a-b-2 : goal.returns-else-a-b-2
unfolding same_counts
returns-else-a-b-2 c = search (ands, ne_eqb, eq-eqb, rules)

pub returns-else-a-b : goal.returns-else-a-b
unfolding same_counts
returns-else-a-b c = search (ands, ne_eqb, eq-eqb, rules)
