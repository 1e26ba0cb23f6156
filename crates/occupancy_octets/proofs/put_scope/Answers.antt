-- `put_scope` meets its contract: by `scope_wrote`.
use Rattle.occupancy_octets.specs.laws.Octets.{scope_wrote}
use borrow.Author.Rules.{rules}
use lib.ListN.{length}
use mathlib.Core.Path.{◌≡◌}
use native.Mathlib.Omega.{arith}
use Rattle.occupancy_octets.proofs.put_scope.Goals as goal

pub put-requires : goal.put-requires
put-requires c = let q : length c.args.v.held ≡ 8 = search rules in omega (arith, c.put_entries-a.ensures.1)

pub returns : goal.returns
returns c = scope_wrote c.args.v (search rules) (search rules) c.put_entries-a.ensures c.put.ensures
