-- `remove` meets its contract: the copy without the lease is laid over the lent slice.
use Rattle.records.specs.laws.Lent.{removed_lent}
use Rattle.lent.proofs.remove.Goals as goal

pub returns : goal.returns
returns c =
    removed_lent c.args.h _ c.args.leases.now c.load-all.ensures c.remove-now.ensures.0 c.remove-now.ensures.1 c.store.ensures
