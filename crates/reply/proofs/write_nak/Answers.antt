-- `write_nak` meets its contract: header, options and End (`replied`).
use Rattle.reply.proofs.Writes.{replied}
use Rattle.reply.specs.Reply.{nak_of}
use borrow.Author.Rules.{rules}
use Rattle.reply.proofs.write_nak.Goals as goal

pub returns : goal.returns
unfolding nak_of
returns c = replied _ _ (rw c.nak.ensures at c.put_header-a.ensures.0) c.put_nak_options-b.ensures c.put_end.ensures (search rules)
