-- `early_1` meets its contract: by the definition.
use Rattle.lists.specs.laws.Both.{and_false, and_true, ands, joins, or_false, or_true, ors}
use Rattle.admission.specs.Tests.{early1_of}
use Rattle.admission.specs.laws.Code.{not_got}
use Rattle.std.proofs.Common.{rules}
use Rattle.admission.proofs.early_1.Goals as goal

pub returns-else-lacks_current : goal.returns-else-lacks_current
unfolding early1_of
returns-else-lacks_current c = search (joins, ands, ors, and_true, and_false, or_true, or_false, not_got, rules)

pub returns-then-lacks_current : goal.returns-then-lacks_current
unfolding early1_of
returns-then-lacks_current c = search (joins, ands, ors, and_true, and_false, or_true, or_false, not_got, rules)
