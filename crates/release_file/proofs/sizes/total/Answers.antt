-- `total` meets its contract: its loop keeps `SizeInv`; by `sizes`.
use Rattle.format.specs.laws.Rows.{sizes}
use borrow.Author.Rules.{rules}
use Rattle.release_file.proofs.sizes.total.Goals as goal

pub loop-q-init : goal.loop-q-init
loop-q-init c = search (sizes, rules)

pub count_of-sum-requires : goal.count_of-sum-requires
count_of-sum-requires c = search (sizes, rules)

pub loop-q-preserved : goal.loop-q-preserved
loop-q-preserved c = search (sizes, rules)

pub returns : goal.returns
returns c = search (sizes, rules)
