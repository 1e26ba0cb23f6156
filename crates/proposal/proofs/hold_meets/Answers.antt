-- `hold_meets` meets its contract: by the number of addresses, and the period.
use Rattle.proposal.specs.laws.Code.{hold_lacks, hold_meets_is}
use Rattle.std.proofs.Common.{rules}
use Rattle.proposal.proofs.hold_meets.Goals as goal

pub returns-then-from-count : goal.returns-then-from-count
returns-then-from-count c = search (hold_meets_is, rules)

pub returns-else-from-count : goal.returns-else-from-count
returns-else-from-count c = search (hold_lacks, rules)
