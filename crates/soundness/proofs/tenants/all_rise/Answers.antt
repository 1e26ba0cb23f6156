-- `tenants::all_rise` meets its contract: records that rise one by one.
use Rattle.std.proofs.Common.{rules}
use Rattle.lists.specs.laws.Part.{unmapped}
use Rattle.soundness.specs.laws.Gathered.{rises_within}
use Rattle.soundness.proofs.tenants.all_rise.Goals as goal

pub returns : goal.returns
returns c = rises_within c.args.t.leases c.args.t.count 16 c.min-n.result (search rules) (search rules) (search (unmapped, rules))
