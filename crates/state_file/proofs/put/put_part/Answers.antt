-- `put::put_part` meets its contract: by `part_wrote`.
use borrow.Author.Rules.{rules}
use Rattle.state_file.proofs.Writes.{part_wrote}
use Rattle.state_file.proofs.put.put_part.Goals as goal

pub returns : goal.returns
returns c = part_wrote (search rules) c.put_u8-a.ensures c.put_u8.ensures
