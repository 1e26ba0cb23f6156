-- `put_if` meets its contract: by `one_written`, `none_written`.
use Rattle.salvage_list.specs.laws.List.{none_written, one_written, three_room}
use borrow.Author.Rules.{rules}
use Rattle.salvage_list.proofs.put_if.Goals as goal

pub returns-then-rule-eq0 : goal.returns-then-rule-eq0
returns-then-rule-eq0 c = search (one_written, none_written, rules)

pub put_one-requires : goal.put_one-requires
put_one-requires c = search (three_room, rules)

pub returns : goal.returns
returns c = search (one_written, rules)
