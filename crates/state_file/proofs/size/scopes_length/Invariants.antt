use lib.ListN.{get_or, length}
use Rattle.state.specs.laws.Layout.{no_scope}
use Rattle.format.specs.laws.Rows.{SizeInv}
use Rattle.state_file.specs.Rows.{scope_row}
use Rattle.state_file.proofs.size.scopes_length.Given as goal

abbrev pub invariant-loop-i : goal.invariant-loop-i
invariant-loop-i l = SizeInv (λ i. length (scope_row l.state.tenant_count i (get_or l.state.scopes i no_scope))) 22 l.n l.sum l.i
