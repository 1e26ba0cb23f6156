-- `put_entry` meets its contract: four numbers, one after the other.
use Rattle.octets.specs.laws.Octets.{wrote_joined}
use borrow.Author.Rules.{rules}
use Rattle.reply.proofs.put_entry.Goals as goal

pub returns : goal.returns
returns c = wrote_joined (search rules) (wrote_joined (search rules) (wrote_joined (search rules) (rw c.from.ensures at c.put_u32-a.ensures) (rw c.highest.ensures at c.put_u32-b.ensures)) c.put_u8-c.ensures) c.put_u8.ensures
