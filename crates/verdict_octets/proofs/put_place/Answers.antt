-- `put_place` meets its contract: by `place_wrote`.
use Rattle.verdict_octets.specs.laws.Octets.{place_wrote}
use borrow.Author.Rules.{rules}
use Rattle.verdict_octets.proofs.put_place.Goals as goal

pub returns : goal.returns
returns c = place_wrote c.args.offset c.args.tenant (search rules) c.put_u16-a.ensures c.put_u8.ensures
