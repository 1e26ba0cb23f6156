-- `error_0` meets its contract: by the definition, case by case.
use Rattle.lists.specs.laws.Both.{joins, ors}
use Rattle.proposal.specs.Proposals.{error0_of}
use Rattle.std.proofs.Common.{rules}
use Rattle.proposal.proofs.error_0.Goals as goal

pub returns-then-is_unmet : goal.returns-then-is_unmet
unfolding error0_of
returns-then-is_unmet c = search (joins, ors, rules)

pub returns-else-is_unmet : goal.returns-else-is_unmet
unfolding error0_of
returns-else-is_unmet c = search (joins, ors, rules)
