-- `drops_hold` meets its contract: by the definition.
use Rattle.lists.specs.laws.Both.{and_false, and_true, ands, joins, or_false, or_true, ors}
use Rattle.admission.specs.Tests.{drops_hold}
use Rattle.admission.specs.laws.Code.{not_got}
use Rattle.std.proofs.Common.{rules}
use Rattle.admission.proofs.drops_hold.Goals as goal

pub returns-else-m-eq-REQUEST : goal.returns-else-m-eq-REQUEST
unfolding drops_hold
returns-else-m-eq-REQUEST c = search (joins, ands, ors, and_true, and_false, or_true, or_false, not_got, rules)

pub returns-then-m-eq-REQUEST : goal.returns-then-m-eq-REQUEST
unfolding drops_hold
returns-then-m-eq-REQUEST c = search (joins, ands, ors, and_true, and_false, or_true, or_false, not_got, rules)
