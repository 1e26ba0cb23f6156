-- `lay` meets its contract: range by range, a fold over the offsets of the set.
use Rattle.occupancy.specs.laws.Loop.{ranged, ranges}
use borrow.Author.Rules.{rules}
use Rattle.occupancy.proofs.lay.Goals as goal

pub loop-left-init : goal.loop-left-init
loop-left-init c = search (ranged, ranges, rules)

pub split_run-r-requires : goal.split_run-r-requires
split_run-r-requires c = search (ranged, ranges, rules)

pub loop-a-init : goal.loop-a-init
loop-a-init c = search (ranged, ranges, rules)

pub more-requires : goal.more-requires
more-requires c = search (ranged, ranges, rules)

pub gain-gains-requires : goal.gain-gains-requires
gain-gains-requires c = search (ranged, ranges, rules)

pub loop-a-preserved : goal.loop-a-preserved
loop-a-preserved c = search (ranged, ranges, rules)

pub raise_held-requires : goal.raise_held-requires
raise_held-requires c = search (ranged, ranges, rules)

pub loop-left-preserved : goal.loop-left-preserved
loop-left-preserved c = search (ranged, ranges, rules)

pub returns : goal.returns
returns c = search (ranged, ranges, rules)
