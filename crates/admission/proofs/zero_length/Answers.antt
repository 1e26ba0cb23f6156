-- `zero_length` meets its contract: the test of the option's value, where it is there.
use Rattle.admission.specs.Tests.{zero_length}
use Rattle.admission.specs.laws.Code.{there_got}
use Rattle.std.specs.Prelude.{eqb}
use Rattle.std.proofs.Common.{rules}
use Rattle.admission.proofs.zero_length.Goals as goal

pub returns : goal.returns
unfolding zero_length
returns c = there_got (λ n. eqb n 0) c.args.m.times.length _ c.is_some_and.ensures (λ x p. search rules)
