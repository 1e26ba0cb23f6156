-- `later` meets its contract: those from a place on, written one behind the other.
use Rattle.std.proofs.Common.{rules}
use Rattle.lists.specs.laws.Part.{unmapped}
use Rattle.lists.specs.laws.Rest.{rest_end}
use Rattle.state.specs.Book.{pushed_release}
use Rattle.releases.specs.laws.Code.{later_start, turn}
use Rattle.releases.proofs.later.Goals as goal

pub loop-r-init : goal.loop-r-init
loop-r-init c = later_start c.args.q.releases c.args.q.count c.args.from (search rules) (search rules) (search (unmapped, rules)) c.requires

pub loop-r-preserved : goal.loop-r-preserved
loop-r-preserved c = turn pushed_release _ _ _ _ c.loop-r-test.true c.push_release-now.ensures c.loop-r.invariant

pub returns : goal.returns
returns c = rest_end pushed_release _ _ c.loop-r-test.false c.loop-r.invariant
