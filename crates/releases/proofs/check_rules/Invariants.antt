use Rattle.releases.specs.laws.Tenants.{MemoryInv}
use Rattle.releases.proofs.check_rules.Given as goal

abbrev pub invariant-loop-h : goal.invariant-loop-h
invariant-loop-h l = MemoryInv l.s l.table l.memory l.n l.all l.h
