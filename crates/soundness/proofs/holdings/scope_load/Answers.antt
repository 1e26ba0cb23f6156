-- `scope_load` meets its contract: a flag and a sum over the tenants.
use Rattle.std.proofs.Common.{refl, rules}
use Rattle.lists.specs.laws.Sums.{sums, sum_next}
use Rattle.soundness.specs.laws.Code.{flags, flag_next, limit_at_law, committed_at}
use Rattle.soundness.proofs.holdings.scope_load.Goals as goal

pub loop-g-init : goal.loop-g-init
loop-g-init c = search (flags, sums, rules)

pub loop-g-preserved : goal.loop-g-preserved
loop-g-preserved c = (flag_next c.loop-g.invariant.0 (search rules) refl (search (limit_at_law, rules)), search (sum_next, committed_at, rules))

pub returns : goal.returns
returns c = search (flags, sums, rules)
