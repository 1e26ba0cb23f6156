-- `add_sets` meets its contract: by sets-added.
use Rattle.soundness.specs.laws.Code.{sets_added}
use borrow.Author.Rules.{rules}
use Rattle.soundness.proofs.holdings.add_sets.Goals as goal

pub returns : goal.returns
returns c = search (sets_added, rules)
