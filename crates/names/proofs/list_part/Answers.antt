-- `list_part` meets its contract: from where the list begins to where it ends (`part_list`).
use Rattle.std.proofs.Common.{arith, rules}
use Rattle.format.specs.laws.Place.{ends_at, ends_in}
use Rattle.names.proofs.Lists.{part_list, part_some}
use Rattle.names.proofs.list_part.Goals as goal

pub unwrap-next-requires : goal.unwrap-next-requires
unwrap-next-requires c = part_some c.list_start-here.ensures c.list_end.ensures

pub slice_bounds-result-count : goal.slice_bounds-result-count
slice_bounds-result-count c = let w = ends_in (ends_at c.list_end.ensures c.unwrap-next.ensures) in search rules

pub slice_bounds-result-start : goal.slice_bounds-result-start
slice_bounds-result-start c = let w = ends_in (ends_at c.list_end.ensures c.unwrap-next.ensures) in search rules

pub slice_bounds-result-end : goal.slice_bounds-result-end
slice_bounds-result-end c = let w = ends_in (ends_at c.list_end.ensures c.unwrap-next.ensures) in search rules

pub returns : goal.returns
returns c = part_list (λ j. omega (arith, c.type_inv.names j)) c.list_start-here.ensures (ends_at c.list_end.ensures c.unwrap-next.ensures)
