use Rattle.format.specs.laws.Rows.{RowInv}
use Rattle.state_file.specs.Records.{zero_range}
use Rattle.state_file.specs.Rows.{range_row}
use Rattle.state_file.proofs.put.put_ranges.Given as goal

abbrev pub invariant-loop-i : goal.invariant-loop-i
invariant-loop-i l = RowInv range_row zero_range l.state.tenants 8 l.state.tenant_count l.n l.initial.buffer l.at l.buffer l.to l.i
