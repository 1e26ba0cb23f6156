-- `every` meets its contract: what is left of the list decides. The list that is asked is the whole of the one that is lent, cut at its end or not.
use Rattle.std.proofs.Common.{ap, rules, take_all, ◌∙◌}
use Rattle.lists.specs.All.{all_by}
use Rattle.lists.specs.laws.Every.{each_next, each_broken, each_ended}
use Rattle.lists.proofs.every.Goals as goal

pub returns-then-not-holds : goal.returns-then-not-holds
returns-then-not-holds g c t h = each_broken t _ _ _ c.loop-x-test.true c.x-item.is (h _ _ c.holds.ensures) c.if-not-holds.true (c.loop-x.invariant t h) ∙ ap (all_by t) (search (rules, take_all))

pub loop-x-preserved : goal.loop-x-preserved
loop-x-preserved g c t h = each_next t _ _ _ c.loop-x-test.true c.x-item.is (h _ _ c.holds.ensures) c.if-not-holds.false (c.loop-x.invariant t h)

pub returns : goal.returns
returns g c t h = each_ended t _ _ c.loop-x-test.false (c.loop-x.invariant t h) ∙ ap (all_by t) (search (rules, take_all))
