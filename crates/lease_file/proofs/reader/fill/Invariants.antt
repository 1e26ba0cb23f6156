use Rattle.lease_file.specs.laws.Load.{FillInv}
use Rattle.lease_file.proofs.reader.fill.Given as goal

abbrev pub invariant-loop : goal.invariant-loop
invariant-loop l = FillInv l.holds l.s l.at l.end l.initial.tenants l.tenants l.here l.counter
