use Rattle.records.specs.laws.Table.{RowsInv}
use Rattle.records.proofs.table_of.Given as goal

abbrev pub invariant-loop-h : goal.invariant-loop-h
invariant-loop-h l = RowsInv l.records.leases l.now.tenants l.h
