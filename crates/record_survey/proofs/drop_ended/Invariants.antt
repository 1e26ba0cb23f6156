use Rattle.records.specs.Records.{table_from}
use Rattle.record_survey.specs.laws.Rows.{DropInv}
use Rattle.record_survey.proofs.drop_ended.Given as goal

abbrev pub invariant-loop-h : goal.invariant-loop-h
invariant-loop-h l = DropInv l.clock (table_from l.records.leases) l.initial.cleared l.now.leases l.sets.tenants l.cleared l.h
