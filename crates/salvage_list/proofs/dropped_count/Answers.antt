-- `dropped_count` meets its contract: by `all_counted`.
use Rattle.salvage_list.specs.laws.List.{all_counted}
use borrow.Author.Rules.{rules}
use Rattle.salvage_list.proofs.dropped_count.Goals as goal

pub returns : goal.returns
returns c = search (all_counted, rules)
