use Rattle.allocation.specs.Loops.{set_in}
use Rattle.lists.specs.laws.Each.{BuildInv}
use Rattle.soundness.specs.Parts.{no_held}
use Rattle.std.specs.Prelude.{replicate}
use Rattle.allocation.proofs.sets_in.Given as goal

abbrev pub invariant-loop-i : goal.invariant-loop-i
invariant-loop-i l = BuildInv (set_in l.scope) no_held l.fn.held.tenants (replicate 8 0) 8 l.sets l.i
