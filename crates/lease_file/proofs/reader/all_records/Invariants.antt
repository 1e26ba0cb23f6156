use Rattle.lists.specs.Arranged.{arranged}
use Rattle.lists.specs.laws.Each.{EachInv}
use Rattle.state.specs.declared.OrderBy.TheVariants.{Ending}
use Rattle.state.specs.Book.{in_use, laid_out, no_leases, order_for}
use Rattle.lease_file.proofs.reader.all_records.Given as goal

abbrev pub invariant-loop-t : goal.invariant-loop-t
invariant-loop-t l = EachInv (λ t. laid_out (arranged (order_for Ending) (in_use t))) no_leases l.initial.t-items 8 l.t-items l.t-index
