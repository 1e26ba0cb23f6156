-- `is_full` meets its contract: by `full_is`.
use Rattle.lists.specs.laws.Part.{unmapped}
use Rattle.salvage_rules.specs.laws.Rules.{full_is}
use borrow.Author.Rules.{rules}
use Rattle.salvage_rules.proofs.is_full.Goals as goal

pub returns : goal.returns
returns c = search (full_is, unmapped, rules)
