-- `add_cover` meets its contract: one test.
use Rattle.usage.specs.laws.Sums.{more_no, more_yes}
use Rattle.std.proofs.Common.{rules}
use Rattle.usage.proofs.sums.add_cover.Goals as goal

pub returns-then-is_counted : goal.returns-then-is_counted
returns-then-is_counted c = search (more_yes, rules)

pub returns-else-is_counted : goal.returns-else-is_counted
returns-else-is_counted c = search (more_no, rules)
