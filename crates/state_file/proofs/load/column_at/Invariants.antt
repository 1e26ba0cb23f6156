use lib.ListN.{get_or}
use Rattle.lists.specs.laws.Pad.{PadInv}
use Rattle.format.specs.Place.{row}
use Rattle.state_file.proofs.load.column_at.Given as goal

abbrev pub invariant-loop-i : goal.invariant-loop-i
invariant-loop-i l = PadInv 0 8 (row (λ s at. get_or s at 0) 2 l.n l.s l.at) l.n l.out l.i
