-- `put_one` meets its contract: by `three_wrote`.
use Rattle.salvage_list.specs.laws.List.{three_wrote}
use borrow.Author.Rules.{rules}
use Rattle.salvage_list.proofs.put_one.Goals as goal

pub returns : goal.returns
returns c = three_wrote (search rules) c.put_u8-a.ensures c.put_u8-b.ensures c.put_u8.ensures
