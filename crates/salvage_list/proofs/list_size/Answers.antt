-- `list_size` meets its contract: by `list_long`.
use Rattle.salvage_list.specs.laws.List.{list_long}
use borrow.Author.Rules.{rules}
use Rattle.salvage_list.proofs.list_size.Goals as goal

pub returns : goal.returns
returns c = search (list_long, rules)
