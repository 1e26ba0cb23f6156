-- `write_offer` meets its contract: header, options and End (`replied`).
use Rattle.reply.specs.Reply.{offer_of}
use Rattle.reply.proofs.write_offer.Goals as goal

pub returns : goal.returns
unfolding offer_of
returns c = (rw c.offer.ensures at c.write_lease.ensures)
