-- `put_language` meets its contract: by `language_wrote`.
use Rattle.verdict_octets.specs.laws.Octets.{language_wrote}
use borrow.Author.Rules.{rules}
use lib.ListN.{length}
use mathlib.Core.Path.{◌≡◌}
use native.Mathlib.Omega.{arith}
use Rattle.verdict_octets.proofs.put_language.Goals as goal

pub put-requires : goal.put-requires
put-requires c = let q : length c.args.l.octets ≡ 8 = search rules in omega (arith, c.put_u8-a.ensures.next, c.put_u16-b.ensures.next)

pub returns : goal.returns
returns c = language_wrote c.args.l (search rules) (search rules) c.flag_of.ensures c.put_u8-a.ensures c.put_u16-b.ensures c.put.ensures
