-- `is_new` meets its contract: by the definition.
use Rattle.lists.specs.laws.Both.{and_false, and_true, ands, joins, or_false, or_true, ors}
use Rattle.admission.specs.Tests.{is_new}
use Rattle.admission.specs.laws.Code.{not_got}
use Rattle.std.proofs.Common.{rules}
use Rattle.admission.proofs.is_new.Goals as goal

pub returns-else-m-eq-DISCOVER : goal.returns-else-m-eq-DISCOVER
unfolding is_new
returns-else-m-eq-DISCOVER c = search (joins, ands, ors, and_true, and_false, or_true, or_false, not_got, rules)

pub returns-then-m-eq-DISCOVER : goal.returns-then-m-eq-DISCOVER
unfolding is_new
returns-then-m-eq-DISCOVER c = search (joins, ands, ors, and_true, and_false, or_true, or_false, not_got, rules)
