-- `any_again` meets its contract: what is left of the list decides.
use Rattle.std.proofs.Common.{rules, take}
use Rattle.lists.specs.laws.Part.{unmapped}
use Rattle.releases.specs.Again.{is_again, any_again}
use Rattle.releases.specs.laws.Code.{found_start, found_yes, found_next, found_none}
use Rattle.releases.proofs.any_again.Goals as goal

pub loop-r-init : goal.loop-r-init
loop-r-init c = found_start (is_again c.args.clock (take c.args.len c.args.id) c.args.xid) c.args.q.releases c.args.q.count (search rules) (search (unmapped, rules))

pub returns-then-is_again : goal.returns-then-is_again
unfolding any_again
returns-then-is_again c = found_yes (is_again c.args.clock (take c.args.len c.args.id) c.args.xid) _ _ _ c.loop-r-test.true c.is_again.ensures c.if-is_again.true c.loop-r.invariant

pub loop-r-preserved : goal.loop-r-preserved
loop-r-preserved c = found_next (is_again c.args.clock (take c.args.len c.args.id) c.args.xid) _ _ _ c.loop-r-test.true c.is_again.ensures c.if-is_again.false c.loop-r.invariant

pub returns : goal.returns
unfolding any_again
returns c = found_none (is_again c.args.clock (take c.args.len c.args.id) c.args.xid) _ _ c.loop-r-test.false c.loop-r.invariant
