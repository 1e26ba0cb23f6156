-- `lists_end` meets its contract: what each step ends, all of them end in a row (`leads_end`).
use Rattle.std.proofs.Common.{rules}
use Rattle.format.specs.laws.Place.{leads_end}
use Rattle.names.proofs.Ends.{list_within}
use Rattle.names.specs.Names.{list_format}
use Rattle.names.proofs.lists_end.Goals as goal

pub row_end-requires-clause-next : goal.row_end-requires-clause-next
row_end-requires-clause-next c = search (list_within, rules)

pub returns : goal.returns
returns c = leads_end list_format (λ here r h p. search rules) _ _ _ c.requires c.row_end.ensures
