use Rattle.format.specs.laws.Rows.{SizeInv}
use Rattle.release_file.specs.Rows.{tenant_octets}
use Rattle.state.specs.Book.{no_releases}
use lib.ListN.{get_or, length}
use Rattle.release_file.proofs.sizes.releases_size.Given as goal

abbrev pub invariant-loop-q : goal.invariant-loop-q
invariant-loop-q l = SizeInv (λ i. length (tenant_octets 0 (get_or l.q-items i no_releases))) 168 8 l.sum l.q-index
