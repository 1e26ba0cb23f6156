-- `is_skewed` meets its contract: by the definition.
use Rattle.lists.specs.laws.Both.{and_false, and_true, ands, joins, or_false, or_true, ors}
use Rattle.admission.specs.Tests.{skewed}
use Rattle.admission.specs.laws.Code.{not_got}
use Rattle.std.proofs.Common.{rules}
use Rattle.admission.proofs.is_skewed.Goals as goal

pub returns : goal.returns
unfolding skewed
returns c = search (joins, ands, ors, and_true, and_false, or_true, or_false, not_got, rules)
