use Rattle.agreement.specs.laws.Code.{BuiltInv}
use Rattle.agreement.proofs.build.Given as goal

abbrev pub invariant-loop-h : goal.invariant-loop-h
invariant-loop-h l = BuiltInv l.fn.table l.now l.h
