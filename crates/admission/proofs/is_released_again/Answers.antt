-- `is_released_again` meets its contract: by the definition.
use Rattle.lists.specs.laws.Both.{and_false, and_true, ands, joins, or_false, or_true, ors}
use Rattle.admission.specs.Tests.{released_again}
use Rattle.admission.specs.laws.Code.{not_got}
use Rattle.std.proofs.Common.{rules}
use Rattle.admission.proofs.is_released_again.Goals as goal

pub returns-else-m-eq-RELEASE : goal.returns-else-m-eq-RELEASE
unfolding released_again
returns-else-m-eq-RELEASE c = search (joins, ands, ors, and_true, and_false, or_true, or_false, not_got, rules)

pub returns-then-m-eq-RELEASE : goal.returns-then-m-eq-RELEASE
unfolding released_again
returns-then-m-eq-RELEASE c = search (joins, ands, ors, and_true, and_false, or_true, or_false, not_got, rules)
