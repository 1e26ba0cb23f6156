-- `bad_counts` meets its contract: by the definition.
use Rattle.lists.specs.laws.Both.{and_false, and_true, ands, joins, or_false, or_true, ors}
use Rattle.admission.specs.Tests.{bad_counts}
use Rattle.admission.specs.laws.Code.{not_got}
use Rattle.std.proofs.Common.{rules}
use Rattle.admission.proofs.bad_counts.Goals as goal

pub returns-else-m-eq0 : goal.returns-else-m-eq0
unfolding bad_counts
returns-else-m-eq0 c = search (joins, ands, ors, and_true, and_false, or_true, or_false, not_got, rules)

pub returns-then-m-eq0 : goal.returns-then-m-eq0
unfolding bad_counts
returns-then-m-eq0 c = search (joins, ands, ors, and_true, and_false, or_true, or_false, not_got, rules)
