-- `error_3` meets its contract: by the definition.
use Rattle.lists.specs.laws.Both.{and_false, and_true, ands, joins, or_false, or_true, ors}
use Rattle.admission.specs.Tests.{error3_of}
use Rattle.admission.specs.laws.Code.{not_got}
use Rattle.std.proofs.Common.{rules}
use Rattle.admission.proofs.error_3.Goals as goal

pub returns-else-needs_lease : goal.returns-else-needs_lease
unfolding error3_of
returns-else-needs_lease c = search (joins, ands, ors, and_true, and_false, or_true, or_false, not_got, rules)

pub returns-then-needs_lease : goal.returns-then-needs_lease
unfolding error3_of
returns-then-needs_lease c = search (joins, ands, ors, and_true, and_false, or_true, or_false, not_got, rules)
