-- `rest` meets its contract: the bits from the end of the range on.
use Rattle.std.proofs.Common.{rules}
use Rattle.address_set.proofs.Ranges.{behind_none, behind_shifted}
use Rattle.address_set.proofs.rest.Goals as goal

pub returns-then-end-lt64 : goal.returns-then-end-lt64
returns-then-end-lt64 c = search (behind_shifted, rules)

pub returns-else-end-lt64 : goal.returns-else-end-lt64
returns-else-end-lt64 c = search (behind_none, rules)
