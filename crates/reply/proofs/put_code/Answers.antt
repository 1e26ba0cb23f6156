-- `put_code` meets its contract: two numbers, one after the other.
use Rattle.octets.specs.laws.Octets.{wrote_joined}
use borrow.Author.Rules.{rules}
use Rattle.reply.proofs.put_code.Goals as goal

pub returns : goal.returns
returns c = wrote_joined (search rules) c.put_u16-a.ensures c.put_u16.ensures
