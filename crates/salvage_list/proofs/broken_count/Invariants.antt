use Rattle.format.specs.laws.Rows.{SizeInv}
use Rattle.salvage_list.specs.List.{one_if}
use lib.ListN.{get_or}
use Rattle.salvage_list.proofs.broken_count.Given as goal

abbrev pub invariant-loop-i : goal.invariant-loop-i
invariant-loop-i l = SizeInv (λ i. one_if (get_or l.rules i 0)) 1 255 l.n l.i
