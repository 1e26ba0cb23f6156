use Rattle.release_file.specs.laws.Limits.{TallyInv}
use Rattle.release_file.proofs.limits.tally.Given as goal

abbrev pub invariant-loop : goal.invariant-loop
invariant-loop l = TallyInv l.s l.from l.count l.n l.here l.counter
