-- `too_short` meets its contract: the test of the option's value, where it is there.
use Rattle.admission.specs.laws.Code.{there_got}
use Rattle.proposal.specs.Proposals.{too_short}
use Rattle.std.specs.Prelude.{ltb}
use Rattle.std.proofs.Common.{rules}
use Rattle.proposal.proofs.too_short.Goals as goal

pub returns : goal.returns
unfolding too_short
returns c = there_got (λ shortest. ltb c.args.length shortest) c.args.m.times.shortest _ c.is_some_and.ensures (λ x p. search rules)
