use Rattle.format.specs.laws.Rows.{RowInv}
use Rattle.lease_file.specs.Rows.{tenant_row}
use Rattle.state.specs.Book.{no_leases}
use Rattle.lease_file.proofs.writer.put_records.Given as goal

abbrev pub invariant-loop-i : goal.invariant-loop-i
invariant-loop-i l = RowInv (tenant_row l.holds) no_leases l.t-items 8 8 8 l.initial.buffer l.at l.buffer l.to l.i
