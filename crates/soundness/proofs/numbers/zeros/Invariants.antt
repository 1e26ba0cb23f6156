use Rattle.soundness.specs.Sound.{zero_from}
use Rattle.soundness.specs.laws.Code.{ZeroInv}
use Rattle.soundness.proofs.numbers.zeros.Given as goal

abbrev pub invariant-loop-i : goal.invariant-loop-i
invariant-loop-i g l = ZeroInv l.a g.row.N l.n (zero_from l.n l.a) l.any l.i
