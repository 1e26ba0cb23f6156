-- `asks_identifier` meets its contract: by the definition.
use Rattle.lists.specs.laws.Both.{and_false, and_true, ands, joins, or_false, or_true, ors}
use Rattle.admission.specs.Tests.{asks_identifier}
use Rattle.admission.specs.laws.Code.{not_got}
use Rattle.std.proofs.Common.{rules}
use Rattle.admission.proofs.asks_identifier.Goals as goal

pub returns-else-needs_lease : goal.returns-else-needs_lease
unfolding asks_identifier
returns-else-needs_lease c = search (joins, ands, ors, and_true, and_false, or_true, or_false, not_got, rules)

pub returns-then-is_new : goal.returns-then-is_new
unfolding asks_identifier
returns-then-is_new c = search (joins, ands, ors, and_true, and_false, or_true, or_false, not_got, rules)

pub returns-then-needs_lease : goal.returns-then-needs_lease
unfolding asks_identifier
returns-then-needs_lease c = search (joins, ands, ors, and_true, and_false, or_true, or_false, not_got, rules)
