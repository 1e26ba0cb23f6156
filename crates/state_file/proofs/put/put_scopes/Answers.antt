-- `put::put_scopes` meets its contract: its loop keeps `RowInv`; by `scope_rows`.
use borrow.Author.Rules.{rules}
use Rattle.state_file.proofs.RowLaws.{scope_rows}
use Rattle.state_file.proofs.put.put_scopes.Goals as goal

pub loop-i-init : goal.loop-i-init
loop-i-init c = search (scope_rows, rules)

pub put_scope-to-requires : goal.put_scope-to-requires
put_scope-to-requires c = search (scope_rows, rules)

pub loop-i-preserved : goal.loop-i-preserved
loop-i-preserved c = search (scope_rows, rules)

pub returns : goal.returns
returns c = search (scope_rows, rules)
