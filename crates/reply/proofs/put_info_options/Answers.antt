-- `put_info_options` meets its contract: one after the other.
use Rattle.reply.proofs.Writes.{put_joined}
use borrow.Author.Rules.{rules}
use Rattle.reply.proofs.put_info_options.Goals as goal

pub returns : goal.returns
returns c = put_joined (search rules) c.put_named-a.ensures (put_joined (search rules) (put_joined (search rules) c.put_scope_list_if-b.ensures c.put_time_if-c.ensures) c.put_features.ensures)
