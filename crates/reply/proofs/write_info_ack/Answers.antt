-- `write_info_ack` meets its contract: header, options and End (`replied`).
use Rattle.reply.proofs.Writes.{replied}
use Rattle.reply.specs.Reply.{info_ack_of}
use borrow.Author.Rules.{rules}
use Rattle.reply.proofs.write_info_ack.Goals as goal

pub returns : goal.returns
unfolding info_ack_of
returns c = replied _ _ (rw c.ack.ensures at c.put_header-a.ensures.0) c.put_info_options-b.ensures c.put_end.ensures (search rules)
