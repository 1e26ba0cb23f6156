-- `settings::each_reserve_ok` meets its contract: every number below a bound.
use Rattle.std.proofs.Common.{rules}
use Rattle.lists.specs.laws.All.{uptos}
use Rattle.soundness.proofs.settings.each_reserve_ok.Goals as goal

pub loop-g-init : goal.loop-g-init
loop-g-init c = search (uptos, rules)

pub returns-then-not-reserve_ok : goal.returns-then-not-reserve_ok
returns-then-not-reserve_ok c = search (uptos, rules)

pub loop-g-preserved : goal.loop-g-preserved
loop-g-preserved c = search (uptos, rules)

pub returns : goal.returns
returns c = search (uptos, rules)
