-- `error_2` meets its contract: the test of the option's value, where it is there.
use Rattle.admission.specs.Tests.{error2_of, skewed}
use Rattle.admission.specs.laws.Code.{there_got}
use Rattle.std.proofs.Common.{rules}
use Rattle.admission.proofs.error_2.Goals as goal

pub returns : goal.returns
unfolding error2_of
returns c = there_got (λ time. skewed time c.args.s.clock) c.args.m.times.current _ c.is_some_and.ensures (λ x p. search rules)
