use Rattle.salvage_rules.specs.laws.Rules.{BelowInv}
use Rattle.salvage_rules.proofs.all_below.Given as goal

abbrev pub invariant-loop-i : goal.invariant-loop-i
invariant-loop-i l = BelowInv l.s l.at l.k l.bound l.i
