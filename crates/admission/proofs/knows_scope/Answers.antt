-- `knows_scope` meets its contract: the test of the option's value, where it is there.
use Rattle.admission.specs.Tests.{knows_scope, scope_place}
use Rattle.admission.specs.laws.Code.{there_got}
use Rattle.soundness.specs.Sound.{scopes_in}
use Rattle.std.specs.Prelude.{ltb}
use Rattle.std.proofs.Common.{rules}
use Rattle.admission.proofs.knows_scope.Goals as goal

pub returns : goal.returns
unfolding knows_scope
returns c = there_got (λ lowest. ltb (scope_place c.args.s lowest) (scopes_in c.args.s)) c.args.m.scope _ c.is_some_and.ensures (λ x p. search rules)
