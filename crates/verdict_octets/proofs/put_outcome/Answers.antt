-- `put_outcome` meets its contract: by `outcome_wrote`.
use Rattle.verdict_octets.specs.laws.Octets.{outcome_wrote}
use borrow.Author.Rules.{rules}
use Rattle.verdict_octets.proofs.put_outcome.Goals as goal

pub returns : goal.returns
returns c = outcome_wrote c.args.v (search rules) c.put_u8-a.ensures c.reply_number.ensures c.put_u8-b.ensures c.put_u8-c.ensures c.put_u8.ensures
