-- `size::scopes_length` meets its contract: its loop keeps `SizeInv`; by `row_sum`, `size_end`, `sizes`, `unmapped`.
use native.Mathlib.Omega.{arith}
use borrow.Author.Rules.{rules}
use Rattle.lists.specs.laws.Part.{unmapped}
use Rattle.state.specs.laws.Layout.{no_scope}
use Rattle.format.specs.laws.Rows.{row_sum, size_end, sizes}
use Rattle.state_file.proofs.RowLaws.{wide_cut}
use Rattle.state_file.specs.Rows.{scope_row}
use Rattle.state_file.proofs.size.scopes_length.Goals as goal

pub loop-i-init : goal.loop-i-init
unfolding scope_row
loop-i-init c = search (sizes, rules)

pub scope_size-sum-requires : goal.scope_size-sum-requires
unfolding scope_row
scope_size-sum-requires c = search (sizes, rules)

pub loop-i-preserved : goal.loop-i-preserved
unfolding scope_row
loop-i-preserved c = search (sizes, rules)

pub returns : goal.returns
unfolding scope_row
returns c = let s = c.args.state in (row_sum (scope_row s.tenant_count) no_scope s.scopes 4 s.scope_count _ _ (search (unmapped, rules)) (wide_cut 4 c.from.ensures c.min-n.ensures) (size_end c.loop-i.invariant (search rules)), omega (arith, c.loop-i.invariant.small, c.loop-i.invariant.within, c.min-n.ensures))
