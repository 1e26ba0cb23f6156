-- `serve` meets its contract: what `record_call::serve` gives of the copies goes back into ledger and records.
use Rattle.std.proofs.Math.Path.{refl}
use Rattle.record_call.specs.laws.Lent.{served_lent}
use Rattle.lent.proofs.serve.Goals as goal

pub returns : goal.returns
returns c =
    served_lent c.args.ledger.now c.args.leases.now c.args.names.now _ c.load-all.ensures c.serve-r.ensures c.advance.ensures c.store.ensures refl
