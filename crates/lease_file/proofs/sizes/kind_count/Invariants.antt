use Rattle.format.specs.laws.Rows.{SizeInv}
use Rattle.lease_file.specs.Rows.{one_of}
use Rattle.state.specs.laws.Layout.{no_lease}
use Rattle.std.proofs.Common.{get_or, length}
use Rattle.lease_file.proofs.sizes.kind_count.Given as goal

abbrev pub invariant-loop-l : goal.invariant-loop-l
invariant-loop-l l = SizeInv (λ i. one_of l.holds (get_or l.leases i no_lease)) 1 (length l.leases) l.sum l.l-index
