-- `put_lease_options` meets its contract: one after the other.
use Rattle.reply.proofs.Writes.{put_joined}
use borrow.Author.Rules.{rules}
use Rattle.reply.proofs.put_lease_options.Goals as goal

pub returns : goal.returns
returns c = put_joined (search rules) (rw c.from.ensures at c.put_number-a.ensures) (put_joined (search rules) c.put_named-b.ensures (put_joined (search rules) (rw c.from-2.ensures at c.put_number-c.ensures) (put_joined (search rules) (rw c.from-3.ensures at c.put_number-d.ensures) (put_joined (search rules) c.put_ranges-e.ensures (put_joined (search rules) (rw c.from-4.ensures at c.put_number-f.ensures) c.put_features.ensures)))))
