-- `load::ranges_at` meets its contract: its loop keeps `PadInv`; by `pads`.
use borrow.Author.Rules.{rules}
use Rattle.state_file.proofs.Pad.{pads}
use Rattle.state_file.proofs.load.ranges_at.Goals as goal

pub zero_range-out-requires : goal.zero_range-out-requires
zero_range-out-requires c = search (pads, rules)

pub loop-i-init : goal.loop-i-init
loop-i-init c = search (pads, rules)

pub range_at-requires : goal.range_at-requires
range_at-requires c = search (pads, rules)

pub loop-i-preserved : goal.loop-i-preserved
loop-i-preserved c = search (pads, rules)

pub returns : goal.returns
returns c = search (pads, rules)
