-- `judge` meets its contract: what `record_verdict::judge` gives of the copies goes back into ledger and records.
use Rattle.std.proofs.Math.Path.{refl}
use Rattle.record_verdict.specs.laws.Lent.{judged_lent}
use Rattle.lent.proofs.judge.Goals as goal

pub returns : goal.returns
returns c =
    judged_lent c.args.ledger.now c.args.leases.now c.args.names.now _ _ _ c.load-all.ensures c.judge-r.ensures c.advance.ensures c.store.ensures refl
