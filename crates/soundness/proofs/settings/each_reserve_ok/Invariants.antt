use Rattle.lists.specs.laws.All.{UptoInv}
use Rattle.soundness.specs.Sound.{reserve_b}
use Rattle.soundness.proofs.settings.each_reserve_ok.Given as goal

abbrev pub invariant-loop-g : goal.invariant-loop-g
invariant-loop-g l = UptoInv (reserve_b l.c) l.n l.g
