-- `every_pair` meets its contract: the pairs of one element in a row, row by row.
use Rattle.std.proofs.Common.{rules}
use Rattle.lists.specs.laws.Every.{row_open, row_next, row_broken, row_ended, pairs_ended}
use Rattle.lists.proofs.every_pair.Goals as goal

pub loop-y-init : goal.loop-y-init
loop-y-init g c t h = row_open t _ _ _ (search rules) c.loop-i-test.true c.index-xs-i.is (c.loop-i.invariant t h)

pub returns-then-not-holds : goal.returns-then-not-holds
returns-then-not-holds g c t h = row_broken (t _) _ _ _ c.loop-y-test.true c.y-item.is _ (h _ _ _ c.holds.ensures) c.if-not-holds.true (c.loop-y.invariant t h)

pub loop-y-preserved : goal.loop-y-preserved
loop-y-preserved g c t h = row_next (t _) _ _ _ c.loop-y-test.true c.y-item.is _ (h _ _ _ c.holds.ensures) c.if-not-holds.false (c.loop-y.invariant t h)

pub loop-i-preserved : goal.loop-i-preserved
loop-i-preserved g c t h = row_ended (t _) _ _ c.loop-y-test.false (c.loop-y.invariant t h)

pub returns : goal.returns
returns g c t h = pairs_ended t _ _ c.loop-i-test.false (c.loop-i.invariant t h)
