-- `is_fresh` meets its contract: by fresh-is.
use Rattle.soundness.specs.laws.Gathered.{fresh_is}
use borrow.Author.Rules.{rules}
use Rattle.soundness.proofs.gather.is_fresh.Goals as goal

pub returns : goal.returns
returns c = search (fresh_is, rules)
