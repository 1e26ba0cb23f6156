-- `put_last` meets its contract: by `last_wrote`.
use Rattle.verdict_octets.specs.laws.Octets.{last_wrote}
use borrow.Author.Rules.{rules}
use Rattle.verdict_octets.proofs.put_last.Goals as goal

pub returns : goal.returns
returns c = last_wrote c.args.r (search rules) c.put_identifier-a.ensures c.put_u8.ensures
