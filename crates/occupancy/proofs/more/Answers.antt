-- `more` meets its contract: entry by entry.
use Rattle.occupancy.specs.laws.Loop.{more_is}
use borrow.Author.Rules.{rules}
use Rattle.occupancy.proofs.more.Goals as goal

pub returns : goal.returns
returns c = search (more_is, rules)
