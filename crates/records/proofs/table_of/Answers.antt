-- `table_of` meets its contract: row by row.
use Rattle.records.specs.laws.Table.{rows_end, rows_next, rows_start}
use Rattle.records.proofs.table_of.Goals as goal

pub loop-h-init : goal.loop-h-init
loop-h-init c = rows_start c.args.records.leases c.no_leases.ensures

pub loop-h-preserved : goal.loop-h-preserved
loop-h-preserved c = rows_next c.args.records.leases c.loop-h.invariant c.loop-h-test.true c.row_at.ensures

pub returns : goal.returns
returns c = rows_end c.args.records.leases c.loop-h.invariant c.loop-h-test.false
