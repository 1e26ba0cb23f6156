-- `count` meets its contract: the bits are as many as the offsets.
use Rattle.address_set.specs.laws.Bits.{ones_offsets}
use borrow.Author.Rules.{rules}
use Rattle.address_set.proofs.count.Goals as goal

pub returns : goal.returns
returns c = search (ones_offsets, rules)
