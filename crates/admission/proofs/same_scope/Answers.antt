-- `same_scope` meets its contract: the test of the record, where it is there.
use Rattle.admission.specs.Tests.{same_scope, scope_in, scope_number, scope_place}
use Rattle.admission.specs.laws.Code.{there_got}
use Rattle.std.specs.Prelude.{eqb}
use Rattle.std.proofs.Common.{rules}
use Rattle.admission.proofs.same_scope.Goals as goal

pub returns : goal.returns
unfolding same_scope
returns c = there_got (λ l. eqb l.scope (scope_number (scope_place c.args.s (scope_in c.args.m)))) c.args.old _ c.is_some_and.ensures (λ x p. search rules)
