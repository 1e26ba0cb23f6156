-- `holding_at` meets its contract: the scope's, and nothing past the last scope.
use Rattle.lists.specs.laws.Part.{unmapped}
use Rattle.occupancy.specs.laws.Polled.{no_holding}
use borrow.Author.Rules.{rules}
use Rattle.occupancy.proofs.holding_at.Goals as goal

pub returns : goal.returns
returns c = search (no_holding, unmapped, rules)
