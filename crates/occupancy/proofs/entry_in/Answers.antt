-- `entry_in` meets its contract: past the last address nothing stands.
use Rattle.lists.specs.laws.Part.{unmapped}
use Rattle.lists.specs.laws.Row.{at_out}
use borrow.Author.Rules.{rules}
use Rattle.occupancy.proofs.entry_in.Goals as goal

pub returns : goal.returns
returns c = search (at_out, unmapped, rules)
