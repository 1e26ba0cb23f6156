-- `every_next` meets its contract: what is left from the element before decides.
use Rattle.lists.specs.laws.Every.{near_next, near_broken, near_ended}
use Rattle.lists.proofs.every_next.Goals as goal

pub returns-then-not-holds : goal.returns-then-not-holds
returns-then-not-holds g c t h = near_broken t _ _ _ _ c.loop-i.auto.i c.loop-i-test.true c.index-xs-i.is c.index-xs-i-in-loop-i.is (h _ _ _ c.holds.ensures) c.if-not-holds.true (c.loop-i.invariant t h)

pub loop-i-preserved : goal.loop-i-preserved
loop-i-preserved g c t h = near_next t _ _ _ _ c.loop-i.auto.i c.loop-i-test.true c.index-xs-i.is c.index-xs-i-in-loop-i.is (h _ _ _ c.holds.ensures) c.if-not-holds.false (c.loop-i.invariant t h)

pub returns : goal.returns
returns g c t h = near_ended t _ _ c.loop-i-test.false (c.loop-i.invariant t h)
