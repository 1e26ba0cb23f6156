use Rattle.format.specs.laws.Entries.{TestInv}
use Rattle.release_file.specs.Place.{after_release, file_release_at}
use Rattle.release_file.specs.Section.{keepable_b}
use Rattle.release_file.proofs.limits.all_keepable.Given as goal

abbrev pub invariant-loop : goal.invariant-loop
invariant-loop l = TestInv keepable_b file_release_at after_release l.s l.from l.count l.here l.counter
