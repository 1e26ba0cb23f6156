use Rattle.occupancy_octets.specs.Octets.{scope_board_octets}
use Rattle.occupancy_octets.specs.laws.Octets.{EvenInv}
use Rattle.occupancy_octets.proofs.put.Given as goal

abbrev pub invariant-loop-v : goal.invariant-loop-v
invariant-loop-v l = EvenInv scope_board_octets 136 l.v-items 4 l.initial.room l.at l.room l.to l.v-index
