-- `is_for_hold` meets its contract: by the definition.
use Rattle.lists.specs.laws.Both.{and_false, and_true, ands, joins, or_false, or_true, ors}
use Rattle.admission.specs.Tests.{is_for_hold}
use Rattle.admission.specs.laws.Code.{not_got}
use Rattle.std.proofs.Common.{rules}
use Rattle.admission.proofs.is_for_hold.Goals as goal

pub returns-else-is_held : goal.returns-else-is_held
unfolding is_for_hold
returns-else-is_held c = search (joins, ands, ors, and_true, and_false, or_true, or_false, not_got, rules)

pub returns-then-is_held : goal.returns-then-is_held
unfolding is_for_hold
returns-then-is_held c = search (joins, ands, ors, and_true, and_false, or_true, or_false, not_got, rules)
