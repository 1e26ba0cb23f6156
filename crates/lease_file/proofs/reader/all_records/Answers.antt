-- `all_records` meets its contract: each section filled in, and each tenant's records arranged.
use Rattle.lists.specs.laws.Each.{each_end}
use Rattle.lease_file.specs.Place.{entries_in}
use Rattle.lease_file.specs.laws.Load.{all_arranged, each_turn, turns}
use Rattle.std.proofs.Common.{false, true, rules}
use Rattle.lease_file.proofs.reader.all_records.Goals as goal

pub loop-t-init : goal.loop-t-init
loop-t-init c = search (turns, rules)

pub loop-t-preserved : goal.loop-t-preserved
loop-t-preserved c = each_turn c.loop-t.invariant (search rules) c.arrange.ensures

pub returns : goal.returns
returns c = all_arranged (entries_in false c.args.s.now c.args.leases) (entries_in true c.args.s.now c.args.holds) c.no_leases-tenants.ensures c.fill.ensures c.fill-2.ensures (each_end c.loop-t.invariant c.loop-t-test.false)
