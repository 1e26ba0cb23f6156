-- `insert` meets its contract: the copy with the lease more is laid over the lent slice.
use Rattle.records.specs.laws.Lent.{inserted_lent}
use Rattle.lent.proofs.insert.Goals as goal

pub returns : goal.returns
returns c =
    inserted_lent c.args.h c.args.l c.args.leases.now c.load-all.ensures c.insert-now.ensures.0 c.insert-now.ensures.1 c.store.ensures
