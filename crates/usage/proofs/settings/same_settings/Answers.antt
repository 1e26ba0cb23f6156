-- `same_settings` meets its contract: by its tests.
use Rattle.lists.specs.laws.Both.{and_no, and_yes}
use Rattle.usage.specs.Usage.{same_settings}
use Rattle.usage.proofs.settings.same_settings.Goals as goal

pub returns-then-same_ranges : goal.returns-then-same_ranges
unfolding same_settings
returns-then-same_ranges c = and_yes _ _ c.same_counts.ensures c.if-same_counts.true (and_yes _ _ c.same_ranges.ensures c.if-same_ranges.true c.same_scopes.ensures)

pub returns-else-same_ranges : goal.returns-else-same_ranges
unfolding same_settings
returns-else-same_ranges c = and_yes _ _ c.same_counts.ensures c.if-same_counts.true (and_no _ _ c.same_ranges.ensures c.if-same_ranges.false c.if-same_ranges.false)

pub returns-else-same_counts : goal.returns-else-same_counts
unfolding same_settings
returns-else-same_counts c = and_no _ _ c.same_counts.ensures c.if-same_counts.false c.if-same_counts.false
