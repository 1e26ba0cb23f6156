-- `put_numbers` meets its contract: by `numbers_wrote`.
use Rattle.verdict_octets.specs.laws.Octets.{numbers_wrote}
use borrow.Author.Rules.{rules}
use Rattle.verdict_octets.proofs.put_numbers.Goals as goal

pub returns : goal.returns
returns c = numbers_wrote c.args.xid c.args.v (search rules) c.put_u32-a.ensures c.put_u32-b.ensures c.put_u32-c.ensures c.put_u32-d.ensures c.put_u32.ensures
