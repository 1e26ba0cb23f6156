-- `gain` meets its contract: the number of a test.
use Rattle.std.proofs.Common.{◌≡◌, ◌∙◌, arith}
use Rattle.occupancy.specs.Split.{gained}
use Rattle.occupancy.specs.laws.Loop.{gain_is, gain_most}
use Rattle.occupancy.proofs.gain.Goals as goal

pub returns : goal.returns
returns c =
    let e : c.from.result ≡ gained c.args.count = c.from.ensures ∙ gain_is c.args.count in
    (e, omega (arith, gain_most c.args.count))
