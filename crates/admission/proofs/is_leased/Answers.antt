-- `is_leased` meets its contract: the test of the record, where it is there.
use Rattle.admission.specs.Tests.{is_leased}
use Rattle.admission.specs.laws.Code.{not_got, there_got}
use Rattle.state.specs.Book.{is_hold}
use Rattle.std.specs.Prelude.{not}
use Rattle.std.proofs.Common.{rules}
use Rattle.admission.proofs.is_leased.Goals as goal

pub returns : goal.returns
unfolding is_leased
returns c = there_got (λ l. not (is_hold l)) c.args.old _ c.is_some_and.ensures (λ x p. search (not_got, rules))
