-- `numbers` meets its contract: each number by its call.
use Rattle.allocation.specs.laws.Loops.{numbers_is}
use Rattle.std.proofs.Common.{rules}
use Rattle.allocation.proofs.numbers.Goals as goal

pub returns : goal.returns
returns c = search (numbers_is, rules)
