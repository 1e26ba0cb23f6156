-- `held_sets` meets its contract: the sets of each lease, gathered.
use Rattle.std.proofs.Common.{rules}
use Rattle.lists.specs.laws.Part.{unmapped}
use Rattle.lists.specs.laws.Rest.{rest_start}
use Rattle.soundness.specs.Parts.{added_sets}
use Rattle.soundness.specs.laws.Code.{held_are}
use Rattle.soundness.proofs.held_sets.Goals as goal

pub loop-l-init : goal.loop-l-init
loop-l-init c = rest_start added_sets c.args.t.leases _ c.args.t.count 16 (search rules) (search (unmapped, rules)) (held_are c.args.t)
