-- `count_in` meets its contract: by count-few.
use Rattle.soundness.specs.laws.Code.{count_few}
use borrow.Author.Rules.{rules}
use Rattle.soundness.proofs.holdings.count_in.Goals as goal

pub returns : goal.returns
returns c = search (count_few, rules)
