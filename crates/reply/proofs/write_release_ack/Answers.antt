-- `write_release_ack` meets its contract: header, options and End (`replied`).
use Rattle.reply.proofs.Writes.{put_joined, replied}
use Rattle.reply.specs.Reply.{release_ack_of}
use borrow.Author.Rules.{rules}
use Rattle.reply.proofs.write_release_ack.Goals as goal

pub returns : goal.returns
unfolding release_ack_of
returns c = replied _ _ (rw c.ack.ensures at c.put_header-a.ensures.0) (put_joined (search rules) c.put_named-b.ensures c.put_features-c.ensures) c.put_end.ensures (search rules)
