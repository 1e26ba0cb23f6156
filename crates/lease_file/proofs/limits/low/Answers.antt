-- `limits::low` meets its contract: its loop keeps `LowInv`; by `lows`.
use Rattle.lease_file.specs.laws.Limits.{lows}
use Rattle.std.proofs.Common.{rules}
use Rattle.lease_file.proofs.limits.low.Goals as goal

pub loop-x-init : goal.loop-x-init
loop-x-init c = search (lows, rules)

pub loop-x-preserved : goal.loop-x-preserved
loop-x-preserved c = search (lows, rules)

pub returns : goal.returns
returns c = search (lows, rules)
