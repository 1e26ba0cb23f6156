-- `same_scope` meets its contract: by its tests.
use Rattle.lists.specs.laws.Both.{and_no, and_yes}
use Rattle.usage.specs.Usage.{same_scope}
use Rattle.usage.specs.laws.Same.{numbers_told}
use Rattle.std.proofs.Common.{◌∙◌}
use Rattle.usage.proofs.settings.same_scope.Goals as goal

pub returns-then-eq : goal.returns-then-eq
unfolding same_scope
returns-then-eq c = and_yes _ _ c.same_pool.ensures c.if-same_pool.true (and_yes _ _ (c.eq.ensures ∙ numbers_told _ _) c.if-eq.true (c.eq-then-eq.ensures ∙ numbers_told _ _))

pub returns-else-eq : goal.returns-else-eq
unfolding same_scope
returns-else-eq c = and_yes _ _ c.same_pool.ensures c.if-same_pool.true (and_no _ _ (c.eq.ensures ∙ numbers_told _ _) c.if-eq.false c.if-eq.false)

pub returns-else-same_pool : goal.returns-else-same_pool
unfolding same_scope
returns-else-same_pool c = and_no _ _ c.same_pool.ensures c.if-same_pool.false c.if-same_pool.false
