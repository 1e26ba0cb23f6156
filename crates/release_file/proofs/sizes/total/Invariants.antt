use Rattle.format.specs.laws.Rows.{SizeInv}
use Rattle.state.specs.Book.{no_releases, remembered}
use lib.ListN.{get_or, length}
use Rattle.release_file.proofs.sizes.total.Given as goal

abbrev pub invariant-loop-q : goal.invariant-loop-q
invariant-loop-q l = SizeInv (λ i. length (remembered (get_or l.q-items i no_releases))) 4 8 l.sum l.q-index
