-- `releases_size` meets its contract: its loop keeps `SizeInv`; by `sizes`, `rows_length`.
use Rattle.format.specs.laws.Rows.{sizes}
use Rattle.release_file.specs.laws.Rows.{rows_length}
use borrow.Author.Rules.{rules}
use Rattle.release_file.proofs.sizes.releases_size.Goals as goal

pub loop-q-init : goal.loop-q-init
loop-q-init c = search (sizes, rules)

pub tenant_size-sum-requires : goal.tenant_size-sum-requires
tenant_size-sum-requires c = search (sizes, rules)

pub loop-q-preserved : goal.loop-q-preserved
loop-q-preserved c = search (sizes, rules)

pub returns : goal.returns
returns c = search (sizes, rows_length, rules)
