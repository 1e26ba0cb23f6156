use Rattle.format.specs.laws.Rows.{SizeInv}
use Rattle.lease_file.specs.Rows.{tenant_octets}
use Rattle.state.specs.Book.{no_leases}
use Rattle.std.proofs.Common.{get_or, length}
use Rattle.lease_file.proofs.sizes.rows_size.Given as goal

abbrev pub invariant-loop-t : goal.invariant-loop-t
invariant-loop-t l = SizeInv (λ i. length (tenant_octets l.holds 0 (get_or l.t-items i no_leases))) 1872 8 l.sum l.t-index
