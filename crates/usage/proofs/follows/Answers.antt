-- `follows` meets its contract: by `follows_both`, `follows_not`.
use Rattle.std.proofs.Common.{rules}
use Rattle.usage.specs.laws.Steps.{follows_both, follows_not}
use Rattle.usage.proofs.follows.Goals as goal

pub returns-then-same_settings : goal.returns-then-same_settings
returns-then-same_settings c = search (follows_both, rules)

pub returns-else-same_settings : goal.returns-else-same_settings
returns-else-same_settings c = search (follows_not, rules)
