use Rattle.salvage_walk.proofs.Steps.{ReleasesInv}
use Rattle.salvage_walk.proofs.walk_releases.Given as goal

abbrev pub invariant-loop-i : goal.invariant-loop-i
invariant-loop-i l = ReleasesInv l.state l.table l.s l.at l.count l.initial.memory l.memory l.rules l.here l.i
