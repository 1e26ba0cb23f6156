-- `broken` meets its contract: by broken-is.
use Rattle.soundness.specs.laws.Code.{broken_is}
use borrow.Author.Rules.{rules}
use Rattle.soundness.proofs.broken.Goals as goal

pub returns : goal.returns
returns c = search (broken_is, rules)
