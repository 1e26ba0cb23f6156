-- `put_identifier` meets its contract: by `identifier_wrote`.
use Rattle.verdict_octets.specs.laws.Octets.{identifier_wrote}
use borrow.Author.Rules.{rules}
use lib.ListN.{length}
use mathlib.Core.Path.{◌≡◌}
use native.Mathlib.Omega.{arith}
use Rattle.verdict_octets.proofs.put_identifier.Goals as goal

pub put-requires : goal.put-requires
put-requires c = let q : length c.args.i.octets ≡ 32 = search rules in omega (arith, c.put_u8-a.ensures.next)

pub returns : goal.returns
returns c = identifier_wrote c.args.i (search rules) (search rules) c.put_u8-a.ensures c.put.ensures
