use Rattle.lease_file.specs.laws.Walk.{RiseInv}
use Rattle.lease_file.proofs.form.rising.Given as goal

abbrev pub invariant-loop-i : goal.invariant-loop-i
invariant-loop-i l = RiseInv l.offsets l.all l.i
