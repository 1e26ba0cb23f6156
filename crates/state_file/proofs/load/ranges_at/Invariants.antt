use Rattle.lists.specs.laws.Pad.{PadInv}
use Rattle.state_file.specs.Place.{range_at}
use Rattle.format.specs.Place.{row}
use Rattle.state_file.specs.Records.{zero_range}
use Rattle.state_file.proofs.load.ranges_at.Given as goal

abbrev pub invariant-loop-i : goal.invariant-loop-i
invariant-loop-i l = PadInv zero_range 8 (row range_at 8 l.n l.s l.at) l.n l.out l.i
