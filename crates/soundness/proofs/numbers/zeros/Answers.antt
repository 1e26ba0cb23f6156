-- `zeros` meets its contract: octets gathered by or.
use Rattle.std.proofs.Common.{rules}
use Rattle.soundness.specs.laws.Code.{zero_next, zero_end}
use Rattle.soundness.proofs.numbers.zeros.Goals as goal

pub loop-i-preserved : goal.loop-i-preserved
loop-i-preserved g c = zero_next c.loop-i.invariant (search rules) (search rules)

pub returns : goal.returns
returns g c = zero_end c.loop-i.invariant (search rules)
