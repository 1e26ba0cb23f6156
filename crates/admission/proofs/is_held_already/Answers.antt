-- `is_held_already` meets its contract: by the definition.
use Rattle.lists.specs.laws.Both.{and_false, and_true, ands, joins, or_false, or_true, ors}
use Rattle.admission.specs.Tests.{held_already}
use Rattle.admission.specs.laws.Code.{not_got}
use Rattle.std.proofs.Common.{rules}
use Rattle.admission.proofs.is_held_already.Goals as goal

pub returns-else-is_leased_already : goal.returns-else-is_leased_already
unfolding held_already
returns-else-is_leased_already c = search (joins, ands, ors, and_true, and_false, or_true, or_false, not_got, rules)

pub returns-then-is_leased_already : goal.returns-then-is_leased_already
unfolding held_already
returns-then-is_leased_already c = search (joins, ands, ors, and_true, and_false, or_true, or_false, not_got, rules)
