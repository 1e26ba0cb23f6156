-- `check_rules` meets its contract: by rules-gathered.
use Rattle.soundness.proofs.Lists.{rules_gathered}
use borrow.Author.Rules.{rules}
use Rattle.soundness.proofs.check_rules.Goals as goal

pub returns : goal.returns
returns c = search (rules_gathered, rules)
