-- `meets_wishes` meets its contract: by the two tests.
use Rattle.proposal.specs.laws.Code.{late_unmet, short_unmet}
use Rattle.std.proofs.Common.{rules}
use Rattle.proposal.proofs.meets_wishes.Goals as goal

pub returns-then-not-too_short : goal.returns-then-not-too_short
returns-then-not-too_short c = search (late_unmet, rules)

pub returns-else-not-too_short : goal.returns-else-not-too_short
returns-else-not-too_short c = search (short_unmet, rules)
