-- `put_asked` meets its contract: by `asked_wrote`.
use Rattle.verdict_octets.specs.laws.Octets.{asked_wrote}
use borrow.Author.Rules.{rules}
use Rattle.verdict_octets.proofs.put_asked.Goals as goal

pub returns : goal.returns
returns c = asked_wrote c.args.r (search rules) c.flag_of.ensures c.put_u8-a.ensures c.flag_of-2.ensures c.put_u8-b.ensures c.flag_of-3.ensures c.put_u8.ensures
