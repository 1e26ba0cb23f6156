-- `with_offset` meets its contract: one test.
use Rattle.std.proofs.Common.{rules}
use Rattle.address_set.specs.laws.Offsets.{with_in, with_out}
use Rattle.address_set.proofs.with_offset.Goals as goal

pub returns-then-at-lt64 : goal.returns-then-at-lt64
returns-then-at-lt64 c = search (with_in, rules)

pub returns-else-at-lt64 : goal.returns-else-at-lt64
returns-else-at-lt64 c = search (with_out, rules)
