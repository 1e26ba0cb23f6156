use Rattle.salvage_walk.proofs.Steps.{RecordsInv}
use Rattle.salvage_walk.proofs.walk_records.Given as goal

abbrev pub invariant-loop-i : goal.invariant-loop-i
invariant-loop-i l = RecordsInv l.holds l.state l.s l.at l.count l.initial.table l.table l.rules l.here l.i
