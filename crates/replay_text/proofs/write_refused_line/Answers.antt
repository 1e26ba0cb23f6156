-- `write_refused_line` meets its contract: part by part.
use Rattle.octets.specs.laws.Octets.{wrote_joined}
use borrow.Author.Rules.{rules}
use Rattle.replay_text.proofs.write_refused_line.Goals as goal

pub returns : goal.returns
returns c = wrote_joined (search rules) (wrote_joined (search rules) (wrote_joined (search rules) c.put-a.ensures c.put_u8-b.ensures) c.put_u8-c.ensures) c.put_u8.ensures
