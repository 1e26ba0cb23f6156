-- `rising` meets its contract: its loop keeps `RiseInv`; by `risings`.
use Rattle.lease_file.specs.laws.Walk.{risings}
use Rattle.std.proofs.Common.{rules}
use Rattle.lease_file.proofs.form.rising.Goals as goal

pub loop-i-init : goal.loop-i-init
loop-i-init c = search (risings, rules)

pub loop-i-preserved : goal.loop-i-preserved
loop-i-preserved c = search (risings, rules)

pub returns : goal.returns
returns c = search (risings, rules)
