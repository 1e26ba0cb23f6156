use Rattle.lists.specs.laws.Same.{SameInv}
use Rattle.state.specs.laws.Layout.{no_scope}
use Rattle.usage.specs.Usage.{same_scope}
use Rattle.usage.proofs.settings.same_scopes.Given as goal

abbrev pub invariant-loop-k : goal.invariant-loop-k
invariant-loop-k l = SameInv same_scope no_scope l.a.scopes l.b.scopes 4 l.k
