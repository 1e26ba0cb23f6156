use Rattle.release_file.specs.laws.Load.{FillInv}
use Rattle.release_file.proofs.reader.all_releases.Given as goal

abbrev pub invariant-loop : goal.invariant-loop
invariant-loop l = FillInv l.s l.from l.count l.out l.here l.counter
