-- `all_few` meets its contract: its loop keeps `FewInv`; by `fews`.
use Rattle.lease_file.specs.laws.Limits.{few_end, few_fit, few_over, fews}
use Rattle.std.proofs.Common.{arith, rules}
use Rattle.lease_file.proofs.limits.all_few.Goals as goal

pub loop-i-init : goal.loop-i-init
loop-i-init c = search (fews, rules)

pub returns-then-saturating_add-gt16 : goal.returns-then-saturating_add-gt16
returns-then-saturating_add-gt16 c = few_over c.loop-i.invariant (search rules) (omega arith)

pub loop-i-preserved : goal.loop-i-preserved
loop-i-preserved c = few_fit c.loop-i.invariant (search rules) (omega arith)

pub returns : goal.returns
returns c = few_end c.loop-i.invariant (search rules)
