-- `write_lease_ack` meets its contract: header, options and End (`replied`).
use Rattle.reply.specs.Reply.{lease_ack_of}
use Rattle.reply.proofs.write_lease_ack.Goals as goal

pub returns : goal.returns
unfolding lease_ack_of
returns c = (rw c.ack.ensures at c.write_lease.ensures)
