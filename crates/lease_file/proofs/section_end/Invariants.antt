use Rattle.lease_file.specs.laws.Form.{EntriesInv}
use Rattle.lease_file.proofs.section_end.Given as goal

abbrev pub invariant-loop : goal.invariant-loop
invariant-loop l = EntriesInv l.holds l.s l.at l.end l.here l.counter l.tenant l.id
