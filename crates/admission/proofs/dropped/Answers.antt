-- `dropped` meets its contract: its test, which is a call.
use Rattle.admission.specs.Tests.{dropped_of}
use Rattle.lists.specs.laws.Pick.{calls}
use Rattle.std.proofs.Common.{rules}
use Rattle.admission.proofs.dropped.Goals as goal

pub returns-then-drops_hold : goal.returns-then-drops_hold
unfolding dropped_of
returns-then-drops_hold c = search (calls, rules)

pub returns-else-drops_hold : goal.returns-else-drops_hold
unfolding dropped_of
returns-else-drops_hold c = search (calls, rules)
