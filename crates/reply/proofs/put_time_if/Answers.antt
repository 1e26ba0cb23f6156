-- `put_time_if` meets its contract: the option, or nothing.
use Rattle.reply.proofs.Writes.{put_none}
use Rattle.reply.proofs.put_time_if.Goals as goal

pub returns-then-info : goal.returns-then-info
returns-then-info c = rw c.if-info.true (rw c.from.ensures at c.put_number.ensures)

pub returns : goal.returns
returns c = rw c.if-info.false (put_none _ _ _)
