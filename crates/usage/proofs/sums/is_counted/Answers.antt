-- `is_counted` meets its contract: by its tests.
use Rattle.usage.specs.laws.Sums.{counted_hold, counted_lease}
use Rattle.std.proofs.Common.{◌∙◌, ap, not}
use Rattle.usage.proofs.sums.is_counted.Goals as goal

pub returns-then-not-is_hold : goal.returns-then-not-is_hold
returns-then-not-is_hold c = counted_lease _ _ c.is_hold.ensures c.if-not-is_hold.true

pub returns-else-not-is_hold : goal.returns-else-not-is_hold
returns-else-not-is_hold c = ap not c.if-not-is_hold.false ∙ counted_hold _ _ c.is_hold.ensures c.if-not-is_hold.false
