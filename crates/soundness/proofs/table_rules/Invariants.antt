use Rattle.soundness.specs.laws.Survey.{SurveyInv}
use Rattle.soundness.proofs.table_rules.Given as goal

abbrev pub invariant-loop-i : goal.invariant-loop-i
invariant-loop-i l = SurveyInv l.s l.fn.table l.all l.i
