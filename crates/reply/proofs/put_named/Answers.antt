-- `put_named` meets its contract: one after the other.
use Rattle.reply.proofs.Writes.{put_joined}
use borrow.Author.Rules.{rules}
use Rattle.reply.proofs.put_named.Goals as goal

pub returns : goal.returns
returns c = put_joined (search rules) c.put_server-a.ensures c.put_identifier.ensures
