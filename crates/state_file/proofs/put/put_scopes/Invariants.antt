use Rattle.state.specs.laws.Layout.{no_scope}
use Rattle.format.specs.laws.Rows.{RowInv}
use Rattle.state_file.specs.Rows.{scope_row}
use Rattle.state_file.proofs.put.put_scopes.Given as goal

abbrev pub invariant-loop-i : goal.invariant-loop-i
invariant-loop-i l = RowInv (scope_row l.state.tenant_count) no_scope l.state.scopes 4 l.state.scope_count l.n l.initial.buffer l.at l.buffer l.to l.i
