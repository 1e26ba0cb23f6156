use Rattle.std.proofs.Common.{get_or, length}
use Rattle.format.specs.laws.Rows.{SizeInv}
use Rattle.release_file.specs.Rows.{release_octets}
use Rattle.state.specs.laws.Layout.{no_release}
use Rattle.release_file.proofs.sizes.tenant_size.Given as goal

abbrev pub invariant-loop-e : goal.invariant-loop-e
invariant-loop-e l = SizeInv (λ i. length (release_octets 0 i (get_or l.e-items i no_release))) 42 (length l.e-items) l.sum l.e-index
