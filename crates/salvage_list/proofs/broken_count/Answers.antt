-- `broken_count` meets its contract: its loop keeps `SizeInv`; by `counts`.
use Rattle.salvage_list.specs.laws.List.{count_end, count_few, count_next, counts}
use borrow.Author.Rules.{rules}
use Rattle.salvage_list.proofs.broken_count.Goals as goal

pub loop-i-init : goal.loop-i-init
loop-i-init c = search (counts, rules)

pub one_if-n-requires : goal.one_if-n-requires
one_if-n-requires c = search (counts, rules)

pub loop-i-preserved : goal.loop-i-preserved
loop-i-preserved c = count_next c.args.rules c.loop-i.invariant _ (search rules) c.one_if-n.ensures.0 c.one_if-n.ensures.1

pub returns : goal.returns
returns c = (count_end c.args.rules c.loop-i.invariant (search rules) (search rules), count_few c.args.rules c.loop-i.invariant)
