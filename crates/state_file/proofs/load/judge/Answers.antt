-- `judge` meets its contract: by `judged_yes`, `judged_not`.
use Rattle.lists.specs.laws.Part.{unmapped}
use Rattle.std.proofs.Common.{rules}
use Rattle.state_file.proofs.Loads.{judged_not, judged_yes}
use Rattle.state_file.proofs.load.judge.Goals as goal

pub returns-then-not-rules_hold : goal.returns-then-not-rules_hold
returns-then-not-rules_hold c = search (judged_not, rules)

pub returns : goal.returns
returns c = search (judged_yes, unmapped, rules)
