use Rattle.format.specs.laws.Rows.{SizeInv}
use Rattle.lease_file.specs.Rows.{kind_count}
use Rattle.state.specs.Book.{no_leases}
use Rattle.std.proofs.Common.{get_or}
use Rattle.lease_file.proofs.sizes.total.Given as goal

abbrev pub invariant-loop-t : goal.invariant-loop-t
invariant-loop-t l = SizeInv (λ i. kind_count l.holds (get_or l.t-items i no_leases)) 16 8 l.sum l.t-index
