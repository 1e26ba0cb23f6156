-- `put::put_ranges` meets its contract: its loop keeps `RowInv`; by `range_rows`, `tenants`.
use borrow.Author.Rules.{rules}
use Rattle.state_file.proofs.RowLaws.{range_rows}
use Rattle.state_file.proofs.put.put_ranges.Goals as goal

pub loop-i-init : goal.loop-i-init
loop-i-init c = search (range_rows, rules)

pub put_range-to-requires : goal.put_range-to-requires
put_range-to-requires c = search (range_rows, rules)

pub loop-i-preserved : goal.loop-i-preserved
loop-i-preserved c = search (range_rows, rules)

pub returns : goal.returns
returns c = search (range_rows, rules)
