-- `put::put_parts` meets its contract: its loop keeps `PairInv`; by `pair_rows`.
use borrow.Author.Rules.{rules}
use Rattle.state_file.proofs.RowLaws.{pair_rows}
use Rattle.state_file.proofs.put.put_parts.Goals as goal

pub loop-i-init : goal.loop-i-init
loop-i-init c = search (pair_rows, rules)

pub put_part-to-requires : goal.put_part-to-requires
put_part-to-requires c = search (pair_rows, rules)

pub loop-i-preserved : goal.loop-i-preserved
loop-i-preserved c = search (pair_rows, rules)

pub returns : goal.returns
returns c = search (pair_rows, rules)
