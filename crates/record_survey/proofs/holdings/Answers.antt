-- `holdings` meets its contract: row by row.
use Rattle.record_survey.specs.laws.Rows.{holding_end, holding_first, holding_row}
use Rattle.record_survey.proofs.holdings.Goals as goal

pub loop-h-init : goal.loop-h-init
loop-h-init c = holding_first c.args.records.leases c.no_tenants.ensures

pub loop-h-preserved : goal.loop-h-preserved
loop-h-preserved c = holding_row c.args.records.leases c.loop-h.invariant c.loop-h-test.true c.row_at.ensures c.held_sets.ensures

pub returns : goal.returns
returns c = holding_end c.args.records.leases c.loop-h.now c.loop-h.invariant c.loop-h-test.false
