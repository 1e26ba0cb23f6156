-- `values::counts_at` meets its contract: the two numbers, one after the other.
use Rattle.message.proofs.Steps.{counts_is}
use borrow.Author.Rules.{rules}
use Rattle.message.proofs.values.counts_at.Goals as goal

pub read_u16-requires : goal.read_u16-requires
read_u16-requires c = search (counts_is, rules)

pub read_u16-requires-2 : goal.read_u16-requires-2
read_u16-requires-2 c = search (counts_is, rules)

pub returns : goal.returns
returns c = search (counts_is, rules)
