-- `put_scopes` meets its contract: its loop keeps `LinesInv`.
use Rattle.number_text.specs.laws.Text.{line_loops, lines_start}
use Rattle.usage.specs.laws.Text.{scopes_done}
use Rattle.std.proofs.Common.{◌∙◌, ℕ, min, ap, arith, rules}
use Rattle.usage.proofs.text.put_scopes.Goals as goal

pub loop-k-init : goal.loop-k-init
loop-k-init c = lines_start (omega (arith, c.min-k-end.ensures, c.from.ensures))

pub put_scope-to-requires : goal.put_scope-to-requires
put_scope-to-requires c = search (line_loops, rules)

pub loop-k-preserved : goal.loop-k-preserved
loop-k-preserved c = search (line_loops, rules)

pub returns : goal.returns
returns c = scopes_done c.args.state c.args.totals c.loop-k.invariant (c.min-k-end.ensures ∙ ap (λ (k : ℕ). min k 4) c.from.ensures) c.loop-k-test.false
