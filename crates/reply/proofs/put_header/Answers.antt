-- `put_header` meets its contract: four numbers, one after the other.
use Rattle.octets.specs.laws.Octets.{wrote_joined}
use borrow.Author.Rules.{rules}
use Rattle.reply.proofs.put_header.Goals as goal

pub returns : goal.returns
returns c = let w = wrote_joined (search rules) (wrote_joined (search rules) (wrote_joined (search rules) c.put_u8-a.ensures c.put_u8-b.ensures) c.put_u16-c.ensures) (rw c.from.ensures at c.put_u32.ensures) in (w, w.next)
