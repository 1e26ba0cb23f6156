-- `store` meets its contract: the front of the records over the lent slice.
use Rattle.std.proofs.Common.{rules, ◌≡◌, length, min}
use Rattle.records.specs.laws.Lent.{front_put}
use Rattle.records.specs.Records.{covered}
use Rattle.lent_steps.proofs.store.Goals as goal

pub returns : goal.returns
unfolding covered
returns c =
    let n : c.min-n.result ≡ min (length c.args.leases.now) 128 = search rules in
    front_put c.args.leases.now c.args.records.leases n c.copy_from_slice.ensures.after
