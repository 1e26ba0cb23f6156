use Rattle.records.specs.laws.Table.{LaidInv}
use Rattle.records.proofs.records_of.Given as goal

abbrev pub invariant-loop-h : goal.invariant-loop-h
invariant-loop-h l = LaidInv l.table.tenants l.now.leases l.h
