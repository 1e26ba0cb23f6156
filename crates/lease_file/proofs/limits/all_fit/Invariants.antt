use Rattle.lease_file.specs.laws.Limits.{FitInv}
use Rattle.lease_file.proofs.limits.all_fit.Given as goal

abbrev pub invariant-loop : goal.invariant-loop
invariant-loop l = FitInv l.holds l.s l.at l.end l.here l.counter
