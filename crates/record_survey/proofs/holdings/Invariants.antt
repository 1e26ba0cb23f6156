use Rattle.record_survey.specs.laws.Rows.{HoldingInv}
use Rattle.record_survey.proofs.holdings.Given as goal

abbrev pub invariant-loop-h : goal.invariant-loop-h
invariant-loop-h l = HoldingInv l.records.leases l.now.tenants l.h
