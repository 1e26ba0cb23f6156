-- `lacks_current` meets its contract: by the definition.
use Rattle.lists.specs.laws.Both.{and_false, and_true, ands, joins, or_false, or_true, ors}
use Rattle.admission.specs.Tests.{lacks_current}
use Rattle.admission.specs.laws.Code.{not_got}
use Rattle.std.proofs.Common.{rules}
use Rattle.admission.proofs.lacks_current.Goals as goal

pub returns-else-is_some-2 : goal.returns-else-is_some-2
unfolding lacks_current
returns-else-is_some-2 c = search (joins, ands, ors, and_true, and_false, or_true, or_false, not_got, rules)

pub returns-then-is_some-2 : goal.returns-then-is_some-2
unfolding lacks_current
returns-then-is_some-2 c = search (joins, ands, ors, and_true, and_false, or_true, or_false, not_got, rules)
