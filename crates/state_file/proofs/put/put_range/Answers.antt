-- `put::put_range` meets its contract: by `range_wrote`.
use borrow.Author.Rules.{rules}
use Rattle.state_file.proofs.Writes.{range_wrote}
use Rattle.state_file.proofs.put.put_range.Goals as goal

pub returns : goal.returns
returns c = range_wrote c.args.r (search rules) c.put_number-a.ensures c.put_number.ensures
