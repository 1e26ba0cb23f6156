use Rattle.lists.specs.laws.Part.{PartInv}
use Rattle.state.specs.Book.{in_use}
use Rattle.state.specs.laws.Layout.{no_lease}
use Rattle.std.proofs.Common.{length}
use Rattle.usage.specs.Report.{cut, more_covered}
use Rattle.usage.specs.Usage.{covered_in}
use Rattle.usage.proofs.sums.cover_in.Given as goal

abbrev pub invariant-loop-l : goal.invariant-loop-l
invariant-loop-l l = PartInv (more_covered l.scope l.from l.to) no_lease l.leases (length l.leases) (cut (covered_in l.scope l.from l.to (in_use l.fn.t))) l.sum l.l-index
