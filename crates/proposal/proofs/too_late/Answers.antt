-- `too_late` meets its contract: the test of the option's value, where it is there.
use Rattle.admission.specs.laws.Code.{there_got}
use Rattle.proposal.specs.Proposals.{too_late}
use Rattle.std.specs.Prelude.{ltb}
use Rattle.std.proofs.Common.{rules}
use Rattle.proposal.proofs.too_late.Goals as goal

pub returns : goal.returns
unfolding too_late
returns c = there_got (λ latest. ltb latest c.args.start) c.args.m.times.latest _ c.is_some_and.ensures (λ x p. search rules)
