use Rattle.lease_file.specs.laws.Limits.{TallyInv}
use Rattle.lease_file.proofs.limits.tally.Given as goal

abbrev pub invariant-loop : goal.invariant-loop
invariant-loop l = TallyInv l.holds l.s l.at l.end l.n l.here l.counter
