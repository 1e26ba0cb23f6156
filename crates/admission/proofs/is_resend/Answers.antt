-- `is_resend` meets its contract: by the definition.
use Rattle.lists.specs.laws.Both.{and_false, and_true, ands, joins, or_false, or_true, ors}
use Rattle.admission.specs.Tests.{resends}
use Rattle.admission.specs.laws.Code.{not_got}
use Rattle.std.proofs.Common.{rules}
use Rattle.admission.proofs.is_resend.Goals as goal

pub returns-else-asks_resend : goal.returns-else-asks_resend
unfolding resends
returns-else-asks_resend c = search (joins, ands, ors, and_true, and_false, or_true, or_false, not_got, rules)

pub returns-then-asks_resend : goal.returns-then-asks_resend
unfolding resends
returns-then-asks_resend c = search (joins, ands, ors, and_true, and_false, or_true, or_false, not_got, rules)
