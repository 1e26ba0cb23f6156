use Rattle.lease_file.specs.laws.Limits.{FewInv}
use Rattle.lease_file.proofs.limits.all_few.Given as goal

abbrev pub invariant-loop-i : goal.invariant-loop-i
invariant-loop-i l = FewInv l.leases l.holds l.i
