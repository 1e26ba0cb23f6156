-- `with_lease` meets its contract: the value as it stands.
use Rattle.decision.specs.Verdicts.{with_lease}
use borrow.Author.Rules.{rules}
use Rattle.decision.proofs.with_lease.Goals as goal

pub returns : goal.returns
unfolding with_lease
returns c = search rules
