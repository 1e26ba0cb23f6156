-- `put_scope` meets its contract: its loop keeps `LinesInv`; by `line_loops`, `scope_done`.
use Rattle.number_text.specs.laws.Text.{line_loops, lines_start}
use Rattle.board_text.proofs.Lines.{scope_done}
use Rattle.std.proofs.Common.{◌∙◌, ℕ, min, ap, arith, rules}
use Rattle.board_text.proofs.put_scope.Goals as goal

pub loop-g-init : goal.loop-g-init
loop-g-init c = lines_start (omega (arith, c.min-g-end.ensures, c.from.ensures))

pub put_tenant-to-requires : goal.put_tenant-to-requires
put_tenant-to-requires c = search (line_loops, rules)

pub loop-g-preserved : goal.loop-g-preserved
loop-g-preserved c = search (line_loops, rules)

pub returns : goal.returns
returns c = scope_done c.args.state c.args.board c.args.k c.loop-g.invariant (c.min-g-end.ensures ∙ ap (λ (k : ℕ). min k 8) c.from.ensures) c.loop-g-test.false
