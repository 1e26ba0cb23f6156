-- `one_if` meets its contract: by `one_kept`, `one_dropped`.
use Rattle.salvage_list.specs.laws.List.{one_dropped, one_kept}
use borrow.Author.Rules.{rules}
use Rattle.salvage_list.proofs.one_if.Goals as goal

pub returns-then-rule-eq0 : goal.returns-then-rule-eq0
returns-then-rule-eq0 c = search (one_kept, rules)

pub returns : goal.returns
returns c = search (one_dropped, rules)
