-- `put_nak_options` meets its contract: one after the other.
use Rattle.reply.proofs.Writes.{put_joined}
use borrow.Author.Rules.{rules}
use Rattle.reply.proofs.put_nak_options.Goals as goal

pub returns : goal.returns
returns c = put_joined (search rules) c.put_named-a.ensures (put_joined (search rules) c.put_features-b.ensures c.put_error.ensures)
