-- `held_in` meets its contract: no tenant holds nothing.
use Rattle.lists.specs.laws.Row.{at_out}
use borrow.Author.Rules.{rules}
use Rattle.occupancy.proofs.held_in.Goals as goal

pub returns : goal.returns
returns c = search (at_out, rules)
