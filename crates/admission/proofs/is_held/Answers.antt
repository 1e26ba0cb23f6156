-- `is_held` meets its contract: the test of the record, where it is there.
use Rattle.admission.specs.Tests.{is_held}
use Rattle.admission.specs.laws.Code.{there_got}
use Rattle.state.specs.Book.{is_hold}
use Rattle.std.proofs.Common.{rules}
use Rattle.admission.proofs.is_held.Goals as goal

pub returns : goal.returns
unfolding is_held
returns c = there_got (is_hold) c.args.old _ c.is_some_and.ensures (λ x p. search rules)
