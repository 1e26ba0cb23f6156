-- `write_lease` meets its contract: header, options and End (`replied`).
use Rattle.reply.proofs.Writes.{replied}
use borrow.Author.Rules.{rules}
use Rattle.reply.proofs.write_lease.Goals as goal

pub returns : goal.returns
returns c = replied _ _ c.put_header-a.ensures.0 c.put_lease_options-b.ensures c.put_end.ensures (search rules)
