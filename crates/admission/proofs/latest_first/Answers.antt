-- `latest_first` meets its contract: by the definition.
use Rattle.lists.specs.laws.Both.{and_false, and_true, ands, joins, or_false, or_true, ors}
use Rattle.admission.specs.Tests.{latest_first}
use Rattle.admission.specs.laws.Code.{not_got}
use Rattle.std.proofs.Common.{rules}
use Rattle.admission.proofs.latest_first.Goals as goal

pub returns-in-Some-Some : goal.returns-in-Some-Some
unfolding latest_first
returns-in-Some-Some c = search (joins, ands, ors, and_true, and_false, or_true, or_false, not_got, rules)

pub returns-in_default : goal.returns-in_default
unfolding latest_first
returns-in_default c = search (joins, ands, ors, and_true, and_false, or_true, or_false, not_got, rules)

pub returns-in_default-2 : goal.returns-in_default-2
unfolding latest_first
returns-in_default-2 c = search (joins, ands, ors, and_true, and_false, or_true, or_false, not_got, rules)
