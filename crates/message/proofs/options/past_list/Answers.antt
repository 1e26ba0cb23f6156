-- `options::past_list` meets its contract: by the definition, case by case.
use Rattle.lists.specs.laws.Pick.{picks}
use Rattle.message.specs.Placed.{past_within}
use Rattle.std.proofs.Common.{arith, rules}
use Rattle.message.proofs.options.past_list.Goals as goal

pub returns-then-end-p : goal.returns-then-end-p
unfolding past_within
returns-then-end-p c = search (picks, rules)

pub read_u16-requires : goal.read_u16-requires
unfolding past_within
read_u16-requires c = search (picks, rules)

pub returns : goal.returns
unfolding past_within
returns c = (rw (c.from.ensures, c.read_u16.ensures) (search (picks, rules)), omega arith)
