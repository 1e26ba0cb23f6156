use Rattle.release_file.specs.laws.Form.{ReleasesInv}
use Rattle.release_file.proofs.form.releases_end.Given as goal

abbrev pub invariant-loop : goal.invariant-loop
invariant-loop l = ReleasesInv l.s l.from l.count l.here l.counter l.tenant l.time
