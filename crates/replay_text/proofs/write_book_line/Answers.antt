-- `write_book_line` meets its contract: part by part.
use Rattle.octets.specs.laws.Octets.{wrote_joined}
use borrow.Author.Rules.{rules}
use Rattle.replay_text.proofs.write_book_line.Goals as goal

pub returns : goal.returns
returns c = wrote_joined (search rules) (wrote_joined (search rules) c.put-a.ensures c.put_hex-b.ensures.0) c.put_u8.ensures
