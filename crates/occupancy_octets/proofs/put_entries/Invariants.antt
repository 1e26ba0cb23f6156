use Rattle.occupancy_octets.specs.Octets.{entry_octets}
use Rattle.occupancy_octets.specs.laws.Octets.{EvenInv}
use Rattle.occupancy_octets.proofs.put_entries.Given as goal

abbrev pub invariant-loop-e : goal.invariant-loop-e
invariant-loop-e l = EvenInv entry_octets 2 l.e-items 64 l.initial.room l.at l.room l.to l.e-index
