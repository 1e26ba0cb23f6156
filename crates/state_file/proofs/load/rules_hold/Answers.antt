-- `rules_hold` meets its contract: by `rules_memory`, `rules_not`.
use Rattle.std.proofs.Common.{rules}
use Rattle.state_file.proofs.Loads.{rules_memory, rules_not}
use Rattle.state_file.proofs.load.rules_hold.Goals as goal

pub returns-then-sound : goal.returns-then-sound
returns-then-sound c = search (rules_memory, rules)

pub returns-else-sound : goal.returns-else-sound
returns-else-sound c = search (rules_not, rules)
