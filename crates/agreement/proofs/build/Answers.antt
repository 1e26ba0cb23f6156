-- `build` meets its contract: a loop over the tenants.
use Rattle.std.proofs.Common.{rules}
use Rattle.agreement.specs.laws.Code.{builds}
use Rattle.agreement.proofs.build.Goals as goal

pub loop-h-init : goal.loop-h-init
loop-h-init c = search (builds, rules)

pub loop-h-preserved : goal.loop-h-preserved
loop-h-preserved c = search (builds, rules)

pub returns : goal.returns
returns c = search (builds, rules)
