-- `list_end` meets its contract: the count, and then the names.
use Rattle.names.proofs.Ends.{list_from, lists, name_within, named_ends}
use Rattle.format.specs.laws.Place.{leads_end}
use Rattle.names.specs.Names.{name_format}
use Rattle.std.proofs.Common.{rules}
use Rattle.names.proofs.list_end.Goals as goal

pub returns-then-s-at : goal.returns-then-s-at
returns-then-s-at c = search (lists, rules)

pub returns-then-k-gt4 : goal.returns-then-k-gt4
returns-then-k-gt4 c = search (lists, rules)

pub row_end-requires-clause-next : goal.row_end-requires-clause-next
row_end-requires-clause-next c = search (name_within, rules)

pub returns : goal.returns
returns c = list_from _ _ _ (search rules) c.from-k.ensures (search rules) (leads_end name_format (λ here r h p. search (named_ends, rules)) _ _ _ (search rules) c.row_end.ensures)
