-- `first_range` meets its contract: zeros below the lowest bit, then the ones above it.
use Rattle.std.proofs.Common.{arith, rules}
use Rattle.address_set.proofs.Ranges.{first_none, first_some, flip}
use Rattle.address_set.proofs.first_range.Goals as goal

pub returns-then-set-eq0 : goal.returns-then-set-eq0
returns-then-set-eq0 c = search (first_none, rules)

pub returns : goal.returns
unfolding flip
returns c = rw c.trailing_ones-count.ensures (first_some c.args.set (search rules) (omega arith))
