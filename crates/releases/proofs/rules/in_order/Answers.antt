-- `in_order` meets its contract: every two neighbours.
use Rattle.std.proofs.Common.{rules}
use Rattle.lists.specs.laws.Part.{unmapped}
use Rattle.releases.specs.laws.Code.{older_within}
use Rattle.releases.proofs.rules.in_order.Goals as goal

pub returns : goal.returns
returns c = older_within c.args.q.releases c.args.q.count 4 c.min-n.result (search rules) (search rules) (search (unmapped, rules))
