use Rattle.format.specs.laws.Rows.{SizeInv}
use Rattle.lease_file.specs.Rows.{entry_octets}
use Rattle.state.specs.laws.Layout.{no_lease}
use Rattle.std.proofs.Common.{get_or, length}
use Rattle.lease_file.proofs.sizes.tenant_size.Given as goal

abbrev pub invariant-loop-l : goal.invariant-loop-l
invariant-loop-l l = SizeInv (λ i. length (entry_octets l.holds 0 i (get_or l.leases i no_lease))) 117 (length l.leases) l.sum l.l-index
