-- `first_n` meets its contract: the offsets below n are n ones.
use Rattle.std.proofs.Common.{rules}
use Rattle.address_set.specs.laws.Offsets.{all_ones, shift_less}
use Rattle.address_set.proofs.first_n.Goals as goal

pub returns-then-n-lt64 : goal.returns-then-n-lt64
returns-then-n-lt64 c = search (shift_less, rules)

pub returns-else-n-lt64 : goal.returns-else-n-lt64
returns-else-n-lt64 c = search (all_ones, rules)
