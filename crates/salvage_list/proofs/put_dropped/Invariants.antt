use Rattle.salvage_list.specs.laws.List.{DroppedInv}
use Rattle.salvage_list.proofs.put_dropped.Given as goal

abbrev pub invariant-loop-i : goal.invariant-loop-i
invariant-loop-i l = DroppedInv l.kind l.rules l.initial.list l.at l.list l.to l.i
