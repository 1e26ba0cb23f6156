-- `lacks_scope` meets its contract: by the definition.
use Rattle.lists.specs.laws.Both.{and_false, and_true, ands, joins, or_false, or_true, ors}
use Rattle.admission.specs.Tests.{lacks_scope}
use Rattle.admission.specs.laws.Code.{not_got}
use Rattle.std.proofs.Common.{rules}
use Rattle.admission.proofs.lacks_scope.Goals as goal

pub returns-else-is_new : goal.returns-else-is_new
unfolding lacks_scope
returns-else-is_new c = search (joins, ands, ors, and_true, and_false, or_true, or_false, not_got, rules)

pub returns-then-is_new : goal.returns-then-is_new
unfolding lacks_scope
returns-then-is_new c = search (joins, ands, ors, and_true, and_false, or_true, or_false, not_got, rules)
