-- `load` meets its contract: the front of the slice over the unused records that `no_records` gave.
use Rattle.std.proofs.Common.{rules, ◌≡◌, ◌∙◌, ap, length, min}
use Rattle.std.proofs.Math.Seq.{paste}
use Rattle.records.specs.laws.Lent.{front_put}
use Rattle.records.specs.Records.{first128}
use Rattle.lent_steps.proofs.load.Goals as goal

pub returns : goal.returns
unfolding first128
returns c =
    let n : c.min-n.result ≡ min (length c.args.leases.now) 128 = search rules in
    front_put c.no_records.result.leases c.args.leases.now n c.copy_from_slice.ensures.after
    ∙ ap (λ d. paste d 0 c.args.leases.now (min (length c.args.leases.now) 128)) c.no_records.ensures
