-- `cover_in` meets its contract: a fold over the leases in use.
use Rattle.lists.specs.laws.Part.{parts, unmapped}
use Rattle.usage.specs.laws.Sums.{cover_start}
use Rattle.std.proofs.Common.{rules}
use Rattle.usage.proofs.sums.cover_in.Goals as goal

pub loop-l-init : goal.loop-l-init
loop-l-init c = cover_start _ _ _ c.args.t (search (unmapped, rules)) c.min.ensures

pub loop-l-preserved : goal.loop-l-preserved
loop-l-preserved c = search (parts, rules)

pub returns : goal.returns
returns c = search (parts, rules)
