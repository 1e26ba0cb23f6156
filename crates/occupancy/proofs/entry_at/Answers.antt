-- `entry_at` meets its contract: the scope's, and nothing past the last scope.
use Rattle.lists.specs.laws.Part.{unmapped}
use Rattle.occupancy.specs.laws.Polled.{no_entry_law}
use borrow.Author.Rules.{rules}
use Rattle.occupancy.proofs.entry_at.Goals as goal

pub returns : goal.returns
returns c = search (no_entry_law, unmapped, rules)
